use Rattle.std.proofs.Common.{◌+◌, map, ap, ◌∙◌}
use Rattle.std.specs.List.{range_with_len}
use Rattle.csr_store.specs.Grid.{Grid, row_start}
use Rattle.csr_store.proofs.Slicing.{starts_are}
use Rattle.csr_store.specs.inner.Cells.{joined_cells}
use Rattle.csr_store.proofs.matrix.Matrix.starts.Goals as goal

pub returns : goal.returns
returns c =
    c.list.ensures ∙ starts_are c.self.inside.rows c.self.inside.columns c.self.inside.starts (joined_cells c.self.inside.cells) c.self.invariant.1 ∙ ap (λ (g : Grid). map (row_start g) (range_with_len 0 (g.rows + 1))) c.self.view_is
