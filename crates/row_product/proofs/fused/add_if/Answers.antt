use Rattle.std.proofs.Common.{arith}
use Rattle.row_product.proofs.Column.{added_few}
use Rattle.row_product.proofs.fused.add_if.Goals as goal

pub overflow_add-result : goal.overflow_add-result
overflow_add-result g c =
    let few = added_few c.args.add.now c.args.sum.now c.args.term.value c.requires.add.0 c.requires.add.1 in
    let s = c.with_term-with.ensures.steps in
    let t = c.requires.few in
    omega (arith, few, s, t)
