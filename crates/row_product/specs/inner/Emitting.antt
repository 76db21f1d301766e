-- The sums of a row put into the open row of the result. This project's own.
use Rattle.std.specs.Prelude.{◌≡◌, ◌≤◌, ℕ, List, [], Option, Some, length}
use Rattle.std.specs.List.{Contains}
use Rattle.std.specs.List.Sorted.{IsNonDecreasing}
use Rattle.csr_store.specs.Run.{Run}
use Rattle.row_product.specs.inner.Sums.{slot}

-- the open row is empty, of n columns, and there is a word for the sum of each
pub record MayEmit (n : ℕ) (sums : List (Option ℕ)) (rows : Run) : Type 0 where
  pub columns : rows.columns ≡ n
  pub wide : rows.columns ≤ length sums
  pub none_open : rows.opened ≡ []

-- listed columns do not fall, and each that has a sum is among them
pub record AreInOrder (listed : List ℕ) (sums : List (Option ℕ)) : Type 0 where
  pub order : IsNonDecreasing listed
  pub covers : (j v : ℕ) → slot sums j ≡ Some v → Contains listed j
