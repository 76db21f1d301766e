use Rattle.std.proofs.Common.{arith}
use Rattle.entry_ops.proofs.Paired.{same_columns}
use Rattle.entry_ops.proofs.pairs.have_same_columns.Goals as goal

pub returns : goal.returns
returns c =
    let e = c.if-left-right.false in
    let l = c.loop-cell-test.false in
    λ t. same_columns c.args.left.now c.args.right.now (0, 0) (omega (arith, e)) (λ k u. c.loop-cell.invariant.are t k (omega (arith, u, l)))
