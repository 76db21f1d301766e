use Rattle.std.proofs.Common.{◌+◌, arith}
use Rattle.std.proofs.lemmas.Fmt.{length-decimal-le}
use Rattle.matrix_market.proofs.line_writer.label_of.Goals as goal

pub write_digits-start-requires : goal.write_digits-start-requires
write_digits-start-requires c =
    let r = c.requires in
    let few = length-decimal-le 8 (c.args.row + 1) (omega arith) (omega arith) (omega arith) in (omega arith, omega arith)

pub invariant_of-result : goal.invariant_of-result
invariant_of-result c =
    let r = c.requires in
    let few = length-decimal-le 8 (c.args.row + 1) (omega arith) (omega arith) (omega arith) in
    let s = c.write_digits-start.ensures.start in
    record { within = (omega arith, omega arith); text = c.write_digits-start.ensures.written }
