-- Operands and mask that are read row by row.
use Rattle.std.proofs.Common.{◌≡◌, ◌≤◌, ◌+◌, ℕ, Option, None, Some, IfSome, refl, sym, subst}
use Rattle.std.specs.Option.{option_map}
use Rattle.csr_store.specs.Grid.{Grid, IsGrid, row_of}
use Rattle.csr_store.specs.Mask.{HasShape}
use Rattle.csr_store.specs.Reading.{Reading}
use Rattle.csr_store.specs.Ascending.{Ascends, AscendsIn}
use Rattle.entry_ops.specs.inner.Walking.{cells_or_none, mask_row, reading_at, row_or_none}
use Rattle.entry_ops.proofs.Filling.{row_ascends}

module _ (i rows columns : ℕ) where
  -- the row is there
  pub read-from : (g : Option Grid) → HasShape rows columns g → i ≤ rows → IfSome g (λ g. i ≤ g.rows)
  read-from None h l = tt
  read-from (Some g) h l = subst (λ n. i ≤ n) (sym h.0) l

  -- what is read, and what is read next
  pub read-row : (g : Option Grid) → option_map (λ (r : Reading). row_of r.grid r.row) (reading_at g i) ≡ mask_row g i
  read-row None = refl
  read-row (Some g) = refl

  pub read-next : (g : Option Grid) → option_map (λ (r : Reading). record r { row = r.row + 1 }) (reading_at g i) ≡ reading_at g (i + 1)
  read-next None = refl
  read-next (Some g) = refl

  pub read-cells : (g : Option Grid) → cells_or_none (mask_row g i) ≡ row_or_none g i
  read-cells None = refl
  read-cells (Some g) = refl

  -- it ascends
  pub cells-ascend : (g : Option Grid) → HasShape rows columns g → IfSome g (λ g. IsGrid g) → Ascends 0 columns (row_or_none g i)
  cells-ascend None h is = tt
  cells-ascend (Some g) h is = row_ascends g i columns (row_of g i) is h.1 refl

  pub mask-ascends : (g : Option Grid) → HasShape rows columns g → IfSome g (λ g. IsGrid g) → AscendsIn columns (mask_row g i)
  mask-ascends None h is = tt
  mask-ascends (Some g) h is = row_ascends g i columns (row_of g i) is h.1 refl
