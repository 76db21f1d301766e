-- Rows position by position, and what is listed along positions. This project's own.
use Rattle.std.specs.Prelude.{ℕ, zero, suc, ◌+◌, List, [], ◌∷◌, ◌++◌, Option, None, Some}
use Rattle.csr_store.specs.Grid.{Cell}

-- g from, g (from + 1) and so on, n of them, joined
abbrev pub along : {T : Type 0} → (ℕ → List T) → ℕ → ℕ → List T
along g from zero = []
along g from (suc n) = g from ++ along g (suc from) n

-- a value at column j, as a row's cells there
abbrev pub cell_at : ℕ → Option ℕ → List Cell
cell_at j None = []
cell_at j (Some v) = (j, v) ∷ []

-- the row that has `at j` at each column j where that is something, by ascending column
abbrev pub row_by : ℕ → (ℕ → Option ℕ) → List Cell
row_by columns at = along (λ j. cell_at j (at j)) 0 columns

-- p from, p (from + 1) and so on, n of them, added
abbrev pub summed : (ℕ → ℕ) → ℕ → ℕ → ℕ
summed p from zero = 0
summed p from (suc n) = p from + summed p (suc from) n
