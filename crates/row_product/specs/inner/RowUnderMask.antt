-- A row of B read beside the mask's row. This project's own.
use Rattle.std.specs.Prelude.{◌≡◌, ◌≤◌, ℕ, Bool, List, is_some}
use Rattle.csr_store.specs.Ascending.{Ascends, at}
use Rattle.csr_store.specs.Grid.{Cell}

-- the mask's row stores something at column j
abbrev pub stores : List Cell → ℕ → Bool
stores row j = is_some (at row j)

-- cells of n columns, and what is left of a mask's row that shows the same at their columns as the whole
pub record IsRowUnderMask (whole : List Cell) (n : ℕ) (cells mask : List Cell) : Type 0 where
  pub low : ℕ
  pub ascends : Ascends low n cells
  pub order : Ascends 0 n mask
  pub same : (j : ℕ) → low ≤ j → at mask j ≡ at whole j
