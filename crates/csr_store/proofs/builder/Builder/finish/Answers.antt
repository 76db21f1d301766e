use Rattle.std.proofs.Common.{ℕ, ap, ◌∙◌}
use Rattle.csr_store.specs.ByRows.{grid}
use Rattle.csr_store.proofs.Collecting.{same_merged}
use Rattle.csr_store.proofs.builder.Builder.finish.Goals as goal

pub returns-in-Ok-finish-clause-ok : goal.returns-in-Ok-finish-clause-ok
returns-in-Ok-finish-clause-ok c =
    let l = c.self.inside.ascending in
    let list = c.in-Ok-merged.list in
    c.in-Ok-finish.ensures.built
    ∙ ap (λ (n : ℕ). grid n list.columns list.entries) c.in-Ok-merged.ensures.rows
    ∙ ap (λ (n : ℕ). grid l.rows n list.entries) c.in-Ok-merged.ensures.columns
    ∙ same_merged l c.self.inside.others.entries c.self.invariant list.entries c.in-Ok-merged.ensures.same ∙ c.self.view_is
