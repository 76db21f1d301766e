use Rattle.std.proofs.Common.{◌∙◌, ap, length, arith, refl}
use Rattle.std.proofs.lemmas.List.{with_items_is}
use Rattle.entry_ops.specs.inner.Folding.{Folding}
use Rattle.entry_ops.proofs.OpenRows.{goes}
use Rattle.entry_ops.proofs.folds.Folds.call_all.Goals as goal

pub returns-clause-goes : goal.returns-clause-goes
returns-clause-goes c =
    let g = c.call.ensures.gives in
    let more = c.call.ensures.more in
    let lanes = ap (λ (e : Folding). length e.lanes) c.self.view_is in
    let steps = ap (λ (e : Folding). e.steps) c.self.view_is in (
      goes c.args.operator.now c.self.inside.lanes _ c.self.inside.results.items _ _ _ c.call.result c.self.inside.steps _
          c.args.self.now c.self.view_is
          c.deref_mut.ensures.value g
          (with_items_is c.self.inside.results c.call.new.results (g.rows ∙ c.deref_mut.ensures.len)) refl,
      λ some. let m = more (omega (arith, some, lanes)) in omega (arith, m, steps),
    )
