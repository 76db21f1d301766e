-- How the cells of a matrix are stored: all in one list, or those of each 256 rows in a list of their own.
use Rattle.std.specs.Prelude.{◌≡◌, ◌≤◌, ◌<◌, ◌+◌, ◌*◌, ◌/◌, ℕ, List, [], ◌∷◌, ◌++◌, length, take, get_or}
use Rattle.std.specs.List.{AllByRecursion}
use Rattle.std.specs.Global.{Vec}
use Rattle.csr_store.specs.Grid.{Cell, limit}
use Rattle.csr_store.specs.ByRows.{ends_of}
use Rattle.csr_store.specs.inner.Run.{AreClosed, IsRow, ended_rows}
use Rattle.csr_store.specs.declared.cells.Cells.{Cells}
use Rattle.csr_store.specs.declared.cells.Cells.TheVariants.{Whole, Runs}

-- lists of cells as one
abbrev pub joined : List (Vec Cell) → List Cell
joined [] = []
joined (v ∷ vs) = v.items ++ joined vs

abbrev pub joined_cells : Cells → List Cell
joined_cells (Whole cells) = cells.items
joined_cells (Runs runs) = joined runs.items

-- how many cells the runs before run k have together
abbrev pub cells_before : List (Vec Cell) → ℕ → ℕ
cells_before runs k = length (joined (take k runs))

-- the cells from one index up to another stand in one list: where there are runs, in this one, with so many cells before it
abbrev pub IsPart : Cells → ℕ → ℕ → ℕ → ℕ → Type 0
IsPart (Whole cells) run before from to = (from ≤ to) × (to ≤ length cells.items)
IsPart (Runs runs) run before from to =
    (run < length runs.items) × (before ≡ cells_before runs.items run) × (before ≤ from) × (from ≤ to)
    × (to ≤ cells_before runs.items (run + 1))

-- each row stands in one list: where there are runs, row i in run i / 256
abbrev pub AreParts : ℕ → List ℕ → Cells → Type 0
AreParts rows starts cells =
    (i : ℕ) → i < rows → IsPart cells (i / 256) (get_or starts (i / 256 * 256) 0) (get_or starts i 0) (get_or starts (i + 1) 0)

-- row 256 k starts where run k does
abbrev pub AreBases : List ℕ → List (Vec Cell) → Type 0
AreBases starts runs =
    (k : ℕ) → k < length runs → (k * 256 < length starts) × (get_or starts (k * 256) 0 ≡ cells_before runs k)

-- Runs of rows, stacked: compressed rows of so many columns and entries, of which each 256 have a list of cells of their own.
pub record AreStacked (columns entries : ℕ) (starts : List ℕ) (runs : List (Vec Cell)) : Type 0 where
  pub closed : AreClosed starts (joined runs)
  pub are_rows : AllByRecursion (λ r. IsRow columns r) (ended_rows 0 (ends_of starts) (joined runs))
  pub bases : AreBases starts runs
  pub filled : length runs ≡ (length (ends_of starts) + 255) / 256
  pub count : entries ≡ length (joined runs)
  pub few : entries ≤ limit
