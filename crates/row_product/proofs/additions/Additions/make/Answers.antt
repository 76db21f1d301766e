use Rattle.std.proofs.Common.{length, ap, ◌∙◌, arith}
use Rattle.bpf_run.specs.Calls.{Gathered}
use Rattle.row_product.proofs.Meeting.{length_values}
use Rattle.row_product.proofs.additions.Additions.make.Goals as goal

pub write-requires-clause-values : goal.write-requires-clause-values
write-requires-clause-values c =
    let v = ap length (c.values.ensures ∙ ap (λ (g : Gathered). g.values) c.make-steps.ensures.values) in
    let l = length_values c.args.add.now c.self.inside.calls.operands in
    let i = c.self.invariant.1 in
    let d = ap length c.deref.ensures.value in
    omega (arith, v, l, i, d)
