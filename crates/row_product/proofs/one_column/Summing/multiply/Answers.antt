use Rattle.std.proofs.Common.{length, ap, ◌∙◌, arith}
use Rattle.bpf_run.specs.Calls.{Gathered}
use Rattle.row_product.proofs.Column.{length_terms}
use Rattle.row_product.proofs.one_column.Summing.multiply.Goals as goal

pub list_terms-requires-clause-few : goal.list_terms-requires-clause-few
list_terms-requires-clause-few c =
    let mul = c.args.mul.now in
    let vs = c.values.ensures ∙ ap (λ (g : Gathered). g.values) c.make-steps.ensures.values in
    let l = ap length (vs ∙ (c.gather.ensures.gathered mul).values) in
    let n = length_terms mul c.args.b.now c.args.cells.now 0 in
    let few = c.requires.may.lent.few in
    omega (arith, l, n, few)
