-- A run of rows of a result, as a piece of the whole. This project's own.
use Rattle.std.specs.Prelude.{◌≡◌, ◌≤◌, ℕ, [], length}
use Rattle.std.specs.List.{AllByRecursion}
use Rattle.csr_store.specs.Run.{Row, Run}

-- so many rows from `first` on, each with no more cells than there are columns, and none open
pub record IsPiece (first columns count : ℕ) (r : Run) : Type 0 where
  pub first_is : r.first ≡ first
  pub columns_are : r.columns ≡ columns
  pub none_open : r.opened ≡ []
  pub count_is : length r.ended ≡ count
  pub small : AllByRecursion (λ (row : Row). length row ≤ columns) r.ended
