use Rattle.std.specs.Str.Lines.{lines}
use Rattle.matrix_market.proofs.Repeated.{lacks_end, lacks_long, lacks_faulty}
use Rattle.matrix_market.proofs.repeat.any_entry.Goals as goal

pub returns-in-Err-clause-none : goal.returns-in-Err-clause-none
returns-in-Err-clause-none c =
    let e = c.in-Line.ensures in
    lacks_faulty c.args.header c.args.cursor c.in-Line.line.now (lines c.in-Line.behind.rest.now) e.0 c.in-Err.field-0 e.1 e.3 c.in-Err.ensures

pub returns-in-End-clause-none : goal.returns-in-End-clause-none
returns-in-End-clause-none c = let e = c.in-End.ensures in lacks_end c.args.header c.args.cursor c.in-End.field-0 e.0

pub returns-in-TooLong-clause-none : goal.returns-in-TooLong-clause-none
returns-in-TooLong-clause-none c = let e = c.in-TooLong.ensures in lacks_long c.args.header c.args.cursor e.1 e.2 e.0 e.3 e.5
