use Rattle.std.proofs.Common.{◌≡◌, ◌≤◌, ◌++◌, drop, take}
use Rattle.row_product.specs.inner.Sums.{flag}
use Rattle.row_product.specs.inner.Adding.{taking}
use Rattle.row_product.proofs.progress.choose.Given as goal

abbrev pub invariant-loop-cell : goal.invariant-loop-cell
invariant-loop-cell l = record {
  chosen : take l.count l.passing ++ taking (flag l.allowed) (drop l.cell-index l.cells) ≡ taking (flag l.allowed) l.cells;
  few : l.count ≤ l.cell-index;
}
