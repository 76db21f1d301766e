use Rattle.std.proofs.Common.{arith}
use Rattle.wire.proofs.Carriage.{line_found}
use Rattle.wire.proofs.lines.find_first.Goals as goal

pub returns-else-length-gt-LINE : goal.returns-else-length-gt-LINE
returns-else-length-gt-LINE c =
    let n = c.in-Some.n in
    let here = c.in-Some.ensures.0 in
    let found = line_found c.args.ended c.args.bytes.now c.strip_cr-length.result.now n c.strip_cr-length.ensures c.in-Some.ensures.1 c.if-length-gt-LINE.false in
    let short = found.0 in
    ((omega arith, omega arith, c.if-length-gt-LINE.false), omega arith, found.1)
