-- Lines of entries as `spmat_write` writes them: those of the canonical text of matrix_market, in the order of the
-- arrays; and with no values those of a `pattern` of the Matrix Market. This project's own.
use Rattle.std.specs.Prelude.{◌≡◌, ◌<◌, ◌≤◌, ◌+◌, ◌-◌, ◌*◌, ◌^◌, ◌⊎◌, ℕ, List, [], ◌∷◌, ◌++◌, All, Option, None, Some}
use Rattle.std.specs.Prelude.{decimal, drop, length, slice_get}
use Rattle.csr_store.specs.Grid.{limit}
use Rattle.matrix_market.specs.CanonicalText.{entry_line, line_of}

-- the line of an entry, with or without its value; row and column count from 1 in text
abbrev pub line : ℕ → ℕ → Option ℕ → List ℕ
line row column (Some value) = entry_line ((row, column), value)
line row column None = line_of (decimal (row + 1) ∷ decimal (column + 1) ∷ [])

-- by rows, columns, and values or none
abbrev pub lines : List ℕ → List ℕ → List ℕ → List ℕ
lines [] columns values = []
lines (r ∷ rows) [] values = []
lines (r ∷ rows) (c ∷ columns) values = line r c (slice_get values 0) ++ lines rows columns (drop 1 values)

-- the arrays have one length, but values may be none; indices are those that a matrix may have; a line has up to 40 bytes
pub record Fit (rows columns values out : List ℕ) : Type 0 where
  pub columns_alike : length columns ≡ length rows
  pub values_alike : length values ≡ 0 ⊎ length values ≡ length rows
  pub room : 40 * length rows ≤ length out
  pub rows_small : All (λ n. n < limit) rows
  pub columns_small : All (λ n. n < limit) columns

-- The lines end with the buffer and start at this place; or the arrays don't fit, and nothing was written.
pub record AreLines (rows columns values before after : List ℕ) (start : ℕ) : Type 0 where
  pub written : Fit rows columns values before → drop start after ≡ lines rows columns values
  pub refused : (Fit rows columns values before → ⊥) → (start ≡ 2 ^ 64 - 1) × (after ≡ before)
