use Rattle.std.proofs.Common.{◌+◌, [], ◌∷◌, arith, length, refl}
use Rattle.std.proofs.lemmas.Bool.{le-ltb}
use Rattle.std.specs.Str.Lines.{lines}
use Rattle.matrix_market.proofs.Reading.{begun, passed, long_fault, no_size, size_fault, size_halved, size_read, size_square}
use Rattle.matrix_market.proofs.reader.read_header.Goals as goal

pub returns-in-End-clause-err : goal.returns-in-End-clause-err
returns-in-End-clause-err c =
    let e = c.in-End.ensures in no_size c.args.text.now c.in-Ok.banner c.in-End.at (c.in-End.at + 1) (passed (lines c.args.text.now) c.in-Ok.banner [] c.in-Some.rest.now [] 1 c.in-End.at (begun c.args.text.now c.in-Some.first.now c.in-Some.rest.now c.in-Ok.banner c.in-Some.ensures.lines (le-ltb 1024 (length c.in-Some.first.now) (omega arith)) c.in-Ok.ensures) e.0) refl

pub returns-in-TooLong-clause-err : goal.returns-in-TooLong-clause-err
returns-in-TooLong-clause-err c =
    let e = c.in-TooLong.ensures in long_fault c.args.text.now c.in-Ok.banner [] e.2 e.1 e.0 c.in-TooLong.at (passed (lines c.args.text.now) c.in-Ok.banner [] c.in-Some.rest.now (e.1 ∷ e.2) 1 e.0 (begun c.args.text.now c.in-Some.first.now c.in-Some.rest.now c.in-Ok.banner c.in-Some.ensures.lines (le-ltb 1024 (length c.in-Some.first.now) (omega arith)) c.in-Ok.ensures) e.3) e.4 e.5

pub returns-in-Err-read_size-clause-err : goal.returns-in-Err-read_size-clause-err
returns-in-Err-read_size-clause-err c =
    let e = c.in-Line.ensures in size_fault c.args.text.now c.in-Ok.banner (lines c.in-Line.start.rest.now) c.in-Line.line.now e.0 c.in-Line.start.at c.in-Err-read_size.rule (passed (lines c.args.text.now) c.in-Ok.banner [] c.in-Some.rest.now (c.in-Line.line.now ∷ lines c.in-Line.start.rest.now) 1 e.0 (begun c.args.text.now c.in-Some.first.now c.in-Some.rest.now c.in-Ok.banner c.in-Some.ensures.lines (le-ltb 1024 (length c.in-Some.first.now) (omega arith)) c.in-Ok.ensures) e.1) e.2 e.3 e.4 c.in-Err-read_size.ensures

pub returns-in-Ok-read_size-clause-begun : goal.returns-in-Ok-read_size-clause-begun
returns-in-Ok-read_size-clause-begun c =
    let e = c.in-Line.ensures in size_read c.args.text.now c.in-Line.start.rest.now c.in-Ok.banner c.in-Ok-read_size.size c.in-Line.line.now e.0 c.in-Line.start.at (passed (lines c.args.text.now) c.in-Ok.banner [] c.in-Some.rest.now (c.in-Line.line.now ∷ lines c.in-Line.start.rest.now) 1 e.0 (begun c.args.text.now c.in-Some.first.now c.in-Some.rest.now c.in-Ok.banner c.in-Some.ensures.lines (le-ltb 1024 (length c.in-Some.first.now) (omega arith)) c.in-Ok.ensures) e.1) e.2 e.3 e.4 c.in-Ok-read_size.ensures

pub invariant_of-result : goal.invariant_of-result
invariant_of-result c =
    let e = c.in-Line.ensures in
    let f = size_read c.args.text.now c.in-Line.start.rest.now c.in-Ok.banner c.in-Ok-read_size.size c.in-Line.line.now e.0 c.in-Line.start.at (passed (lines c.args.text.now) c.in-Ok.banner [] c.in-Some.rest.now (c.in-Line.line.now ∷ lines c.in-Line.start.rest.now) 1 e.0 (begun c.args.text.now c.in-Some.first.now c.in-Some.rest.now c.in-Ok.banner c.in-Some.ensures.lines (le-ltb 1024 (length c.in-Some.first.now) (omega arith)) c.in-Ok.ensures) e.1) e.2 e.3 e.4 c.in-Ok-read_size.ensures in
    record {
      rows_small = f.rows_small;
      columns_small = f.columns_small;
      entries_small = f.entries_small;
      halved = size_halved c.in-Ok.banner c.in-Ok-read_size.size c.in-Line.line.now c.in-Ok-read_size.ensures;
      square = size_square c.in-Ok.banner c.in-Ok-read_size.size c.in-Line.line.now c.in-Ok-read_size.ensures;
    }
