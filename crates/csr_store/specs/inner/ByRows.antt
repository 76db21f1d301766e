-- What stands beside specs/ByRows.antt for this crate's own modules and proofs.
use Rattle.std.specs.Prelude.{◌≡◌, ◌≤◌, ◌+◌, ◌-◌, zero, suc, ℕ, List, [], ◌∷◌, ◌++◌, length, true}
use Rattle.std.specs.FinMap as fin
use Rattle.csr_store.specs.Grid.{Cell, pos_cmp}
use Rattle.csr_store.specs.ByRows.{by_rows, ends_of}

-- the ends from index `from` on don't fall, and are no more than n behind it
abbrev pub Within : ℕ → List ℕ → ℕ → Type 0
Within from [] n = Unit {0}
Within from (e ∷ ends) n = (from ≤ e) × ((e ≤ from + n) × Within e ends (n - (e - from)))

abbrev pub repeated : ℕ → ℕ → List ℕ
repeated zero x = []
repeated (suc n) x = x ∷ repeated n x

-- some more rows end here
pub record Closes (old : List ℕ) (end : ℕ) (new : List ℕ) : Type 0 where
  pub count : ℕ
  pub is : new ≡ old ++ repeated count end

-- each row has its start, and the last row its end
pub record AreStarts (rows : ℕ) (starts : List ℕ) (cells : List Cell) : Type 0 where
  pub begin : starts ≡ 0 ∷ ends_of starts
  pub count : length (ends_of starts) ≡ rows
  pub within : Within 0 (ends_of starts) (length cells)
  pub ascending : fin.is_sorted pos_cmp (by_rows (ends_of starts) cells) ≡ true

-- the rows that are left end here, and the start of the first row is put before the ends
pub record Starts (old : List ℕ) (end rows : ℕ) (new : List ℕ) : Type 0 where
  pub closed : List ℕ
  pub closes : Closes old end closed
  pub count : length closed ≡ rows
  pub is : new ≡ 0 ∷ closed
