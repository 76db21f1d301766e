use Rattle.std.proofs.Common.{◌≡◌, ◌≤◌, ◌+◌, ◌++◌, ℕ, List, length, take}
use Rattle.csr_store.specs.Grid.{Cell}
use Rattle.row_product.specs.inner.Adding.{taking}
use Rattle.row_product.specs.inner.RowUnderMask.{stores, IsRowUnderMask}
use Rattle.row_product.proofs.row_under_mask.list_passing.Given as goal

abbrev pub decreases-loop-count : goal.decreases-loop-count
decreases-loop-count l = length l.cells

abbrev pub invariant-loop-count : goal.invariant-loop-count
invariant-loop-count l = record {
  listed : (whole : List Cell) (n : ℕ) → IsRowUnderMask whole n l.fn.row.cells.now l.fn.row.mask → IsRowUnderMask whole n l.cells l.mask
      × (take l.count l.passing ++ taking (stores whole) l.cells ≡ taking (stores whole) l.fn.row.cells.now);
  few : l.count + length l.cells ≤ length l.fn.row.cells.now;
  most : l.count ≤ 64;
}
