-- Rows of one column, and how a copy of them is stored: a word and a bit each. This project's own.
use Rattle.std.specs.Prelude.{◌≡◌, ◌<◌, ◌≤◌, ◌-◌, ◌/◌, ◌%◌, ℕ, Bool, true, nat_eq, if◌then◌else◌}
use Rattle.std.specs.Prelude.{List, [], ◌∷◌, Option, None, Some, length, map, get_or, slice_index_or}
use Rattle.std.specs.Int.{bit_at}
use Rattle.std.specs.List.{range_with_len}
use Rattle.std.specs.FinMap as fin
use Rattle.csr_store.specs.Along.{along}
use Rattle.csr_store.specs.Grid.{Grid, Cell, row_of}

-- the word of the first of some cells
abbrev pub first_word : List Cell → Option ℕ
first_word [] = None
first_word (c ∷ cs) = Some c.1

-- the bit of a row, in words of 64
abbrev pub bit_of : List ℕ → ℕ → ℕ
bit_of bits k = bit_at (slice_index_or bits (k / 64) 0) (k % 64)

-- the word of a row, where its bit is set
abbrev pub slot_at : List ℕ → List ℕ → ℕ → Option ℕ
slot_at words bits k = if nat_eq (bit_of bits k) 1 then Some (get_or words k 0) else None

-- the same of all rows
abbrev pub slots : List ℕ → List ℕ → List (Option ℕ)
slots words bits = map (slot_at words bits) (range_with_len 0 (length words))

-- the bits of so many rows are set
abbrev pub AllHave : List ℕ → ℕ → Type 0
AllHave bits rows = (k : ℕ) → k < rows → bit_of bits k ≡ 1

-- the rows of a matrix of one column are copied; it is known whether each has a word
pub record IsCopied (g : Grid) (words bits : List ℕ) (full : Bool) : Type 0 where
  pub rows : length words ≡ g.rows
  pub slots_are : (k : ℕ) → k < g.rows → slot_at words bits k ≡ fin.get g.cells (k, 0)
  pub all : full ≡ true → AllHave bits g.rows

-- the cells of the rows from one up to another, of which each has one
pub record HaveOneEach (g : Grid) (first end : ℕ) (cells : List Cell) : Type 0 where
  pub cells_are : cells ≡ along (row_of g) first (end - first)
  pub many : length cells ≡ end - first
  pub each : (i : ℕ) → first ≤ i → i < end → length (row_of g i) ≡ 1
