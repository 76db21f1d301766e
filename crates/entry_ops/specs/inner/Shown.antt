-- Rows of a matrix with the entries that a mask shows. This project's own.
use Rattle.std.specs.Prelude.{ℕ, [], ◌∷◌}
use Rattle.csr_store.specs.Grid.{Grid, row_of}
use Rattle.csr_store.specs.Along.{along}
use Rattle.csr_store.specs.Run.{Row, Run}
use Rattle.csr_store.specs.Shown.{cells_shown}

-- row i
abbrev pub row_shown : Grid → Grid → ℕ → Row
row_shown a mask i = cells_shown (row_of mask i) (row_of a i)

-- the rows from one on, n of them
abbrev pub rows_shown : Grid → Grid → ℕ → ℕ → Run
rows_shown a mask first n =
    record { first = first; columns = a.columns; ended = along (λ i. row_shown a mask i ∷ []) first n; opened = [] }
