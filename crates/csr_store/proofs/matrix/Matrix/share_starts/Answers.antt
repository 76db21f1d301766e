use Rattle.std.proofs.Common.{◌≡◌, ◌+◌, map, ap, subst, ◌∙◌, ℕ, List, IfOk}
use Rattle.std.specs.List.{range_with_len}
use Rattle.csr_store.specs.Grid.{Grid, row_start}
use Rattle.csr_store.proofs.Slicing.{starts_are}
use Rattle.csr_store.specs.inner.Cells.{joined_cells}
use Rattle.csr_store.proofs.matrix.Matrix.share_starts.Goals as goal

pub returns : goal.returns
returns c =
    subst (λ (xs : List ℕ). IfOk c.share.result (λ s. s ≡ xs))
    (starts_are c.self.inside.rows c.self.inside.columns c.self.inside.starts (joined_cells c.self.inside.cells) c.self.invariant.1
    ∙ ap (λ (g : Grid). map (row_start g) (range_with_len 0 (g.rows + 1))) c.self.view_is)
    c.share.ensures
