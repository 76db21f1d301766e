use Rattle.std.proofs.Common.{◌+◌, arith, rules}
use Rattle.std.proofs.lemmas.Fmt.{length-decimal-le}
use Rattle.spmat_lib.proofs.lines.write_index.Goals as goal

pub write_digits-requires : goal.write_digits-requires
write_digits-requires c =
    let r = c.requires.small in
    let few = length-decimal-le 8 (c.args.index + 1) (omega arith) (omega arith) (omega arith) in (omega arith, search rules)

pub returns-clause-start : goal.returns-clause-start
returns-clause-start c =
    let r = c.requires.small in
    let few = length-decimal-le 8 (c.args.index + 1) (omega arith) (omega arith) (omega arith) in (omega arith, omega arith)
