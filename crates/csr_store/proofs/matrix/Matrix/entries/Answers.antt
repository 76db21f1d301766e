-- entries
use Rattle.std.proofs.Common.{sym, ap, ◌∙◌}
use Rattle.std.specs.FinMap as map
use Rattle.csr_store.specs.Grid.{Grid}
use Rattle.csr_store.proofs.Filling.{sorted_entries}
use Rattle.csr_store.proofs.matrix.Matrix.entries.Goals as goal

pub returns-clause-entries : goal.returns-clause-entries
returns-clause-entries c =
    c.self.invariant.3 ∙ sym (sorted_entries _ _ c.self.invariant.1.within c.self.invariant.1.ascending) ∙ ap (λ (g : Grid). map.len g.cells) c.self.view_is
