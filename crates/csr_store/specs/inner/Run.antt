-- What stands beside specs/Run.antt for this crate's own modules and proofs.
use Rattle.std.specs.Prelude.{◌≡◌, ℕ, ◌<◌, ◌≤◌, ◌^◌, ◌-◌, true, List, [], ◌∷◌, length, take, drop}
use Rattle.std.specs.List.{AllByRecursion}
use Rattle.std.specs.Ordering.{nat_cmp}
use Rattle.std.specs.FinMap as fin
use Rattle.csr_store.specs.Grid.{Cell}
use Rattle.csr_store.specs.ByRows.{ends_of}
use Rattle.csr_store.specs.Run.{Row}

-- columns that ascend, each below a bound, with words
pub record IsRow (columns : ℕ) (row : Row) : Type 0 where
  pub ascending : fin.is_sorted nat_cmp row ≡ true
  pub within : AllByRecursion (λ (c : Cell). (c.0 < columns) × (c.1 < 2 ^ 64)) row

-- How a run is stored: where each of its rows ends among its cells.

-- the rows that have an end, from the one that begins at a cell on
abbrev pub ended_rows : ℕ → List ℕ → Row → List Row
ended_rows from [] cells = []
ended_rows from (to ∷ ends) cells = take (to - from) cells ∷ ended_rows to ends (drop (to - from) cells)

-- the cells behind the last end
abbrev pub open_row : ℕ → List ℕ → Row → Row
open_row from [] cells = cells
open_row from (to ∷ ends) cells = open_row to ends (drop (to - from) cells)

-- ends that don't fall, from an index on up to a limit
abbrev pub AreEnds : ℕ → List ℕ → ℕ → Type 0
AreEnds from [] most = from ≤ most
AreEnds from (to ∷ ends) most = (from ≤ to) × AreEnds to ends most

pub record AreRows (columns : ℕ) (ends : List ℕ) (cells : Row) : Type 0 where
  pub ends_rise : AreEnds 0 ends (length cells)
  pub ended_are : AllByRecursion (λ r. IsRow columns r) (ended_rows 0 ends cells)
  pub open_is : IsRow columns (open_row 0 ends cells)

-- compressed rows that all have an end
pub record AreClosed (starts : List ℕ) (cells : Row) : Type 0 where
  pub begin : starts ≡ 0 ∷ ends_of starts
  pub rise : AreEnds 0 (ends_of starts) (length cells)
  pub none_open : open_row 0 (ends_of starts) cells ≡ []
