-- Cells added to a row, many at a time. This project's own.
use Rattle.std.specs.Prelude.{ℕ, zero, suc, length, drop, nat_eq, if◌then◌else◌, List, [], ◌∷◌}
use Rattle.csr_store.specs.Grid.{Grid, row_of}
use Rattle.csr_store.specs.Run.{Row}

-- cells with other values, as far as there are values
abbrev pub with_values : Row → List ℕ → Row
with_values [] values = []
with_values (c ∷ cells) [] = []
with_values (c ∷ cells) (v ∷ values) = (c.0, v) ∷ with_values cells values

-- those of some cells whose answer is not 0, as far as there are answers
abbrev pub kept_where : Row → List ℕ → Row
kept_where [] answers = []
kept_where (c ∷ cells) [] = []
kept_where (c ∷ cells) (a ∷ answers) = if nat_eq a 0 then kept_where cells answers else c ∷ kept_where cells answers

-- the same of row i of a matrix and those behind it, n of them; the answers are those of one row after the other
abbrev pub kept_rows : Grid → List ℕ → ℕ → ℕ → List Row
kept_rows a answers i zero = []
kept_rows a answers i (suc n) = kept_where (row_of a i) answers ∷ kept_rows a (drop (length (row_of a i)) answers) (suc i) n
