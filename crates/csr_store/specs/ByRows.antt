-- How a matrix is stored: compressed rows. All cells stand in one list, row after row, and a second list says where each
-- row ends in it; the row behind those that have an end is open. This project's own.
use Rattle.std.specs.Prelude.{◌+◌, ◌-◌, ℕ, List, [], ◌∷◌, ◌++◌, take, drop}
use Rattle.std.specs.FinMap as fin
use Rattle.csr_store.specs.Grid.{Grid, Cell, Entry, at_row}

-- the grid of two sizes and a list of entries
abbrev pub grid : ℕ → ℕ → List Entry → Grid
grid rows columns es = record { rows = rows; columns = columns; cells = fin.from_entries es }

-- the entries of the cells from index `from` on, in row i and those behind it
abbrev pub entries_from : ℕ → ℕ → List ℕ → List Cell → List Entry
entries_from i from [] cs = at_row i cs
entries_from i from (e ∷ ends) cs = at_row i (take (e - from) cs) ++ entries_from (i + 1) e ends (drop (e - from) cs)

abbrev pub by_rows : List ℕ → List Cell → List Entry
by_rows ends cells = entries_from 0 0 ends cells

-- where rows end, by where they start: all starts but the first
abbrev pub ends_of : List ℕ → List ℕ
ends_of [] = []
ends_of (s ∷ ends) = ends
