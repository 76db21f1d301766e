-- Values given to entries of a run, which are numbered from 0 in the order in which they were added. This project's own.
use Rattle.std.specs.Prelude.{ℕ, zero, suc, ◌+◌, ◌-◌, ◌≡◌, nat_lt, if◌then◌else◌, List, [], ◌∷◌, ◌++◌, length, map}
use Rattle.csr_store.specs.Grid.{Grid, row_of}
use Rattle.csr_store.specs.Along.{along}
use Rattle.csr_store.specs.Run.{Row, Run}

-- how many entries rows have together
abbrev pub entries_in : List Row → ℕ
entries_in [] = 0
entries_in (row ∷ rows) = length row + entries_in rows

-- how many a run has, with those of its open row
abbrev pub entries_of : Run → ℕ
entries_of run = entries_in run.ended + length run.opened

-- a row whose entry k has another value, and the row itself where it has no entry k
abbrev pub valued : ℕ → ℕ → Row → Row
valued k v [] = []
valued zero v (c ∷ cells) = (c.0, v) ∷ cells
valued (suc k) v (c ∷ cells) = c ∷ valued k v cells

-- rows that follow one another, whose entry k has another value
abbrev pub valued_in : ℕ → ℕ → List Row → List Row
valued_in k v [] = []
valued_in k v (row ∷ rows) = if nat_lt k (length row) then valued k v row ∷ rows else row ∷ valued_in (k - length row) v rows

-- a run whose entry k has another value
abbrev pub with_value : ℕ → ℕ → Run → Run
with_value k v run = record run {
  ended = valued_in k v run.ended;
  opened = if nat_lt k (entries_in run.ended) then run.opened else valued (k - entries_in run.ended) v run.opened;
}

-- the entries of a run, row after row
abbrev pub cells_in : List Row → Row
cells_in [] = []
cells_in (row ∷ rows) = row ++ cells_in rows

abbrev pub all_cells : Run → Row
all_cells run = cells_in run.ended ++ run.opened

-- a row whose entries from k on have other values, as many as are listed
abbrev pub valued_from : ℕ → List ℕ → Row → Row
valued_from k [] cells = cells
valued_from k (v ∷ vs) cells = valued_from (suc k) vs (valued k v cells)

-- runs of the same rows, each with as many entries
pub record AreAlike (run other : Run) : Type 0 where
  pub first : run.first ≡ other.first
  pub columns : run.columns ≡ other.columns
  pub ended : map (λ (r : Row). length r) run.ended ≡ map (λ (r : Row). length r) other.ended
  pub opened : length run.opened ≡ length other.opened

-- rows of a matrix as a run: those from one on, n of them
abbrev pub rows_of : Grid → ℕ → ℕ → Run
rows_of g from n = record { first = from; columns = g.columns; ended = along (λ i. row_of g i ∷ []) from n; opened = [] }
