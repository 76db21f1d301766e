use Rattle.std.proofs.Common.{◌≡◌, ◌≤◌, ◌++◌, drop, take}
use Rattle.row_product.specs.inner.StandIn.{taking_columns}
use Rattle.row_product.specs.inner.Sums.{flag}
use Rattle.row_product.proofs.progress.choose_columns.Given as goal

abbrev pub invariant-loop-column : goal.invariant-loop-column
invariant-loop-column l = record {
  chosen : take l.count l.passing ++ taking_columns (flag l.allowed) (drop l.column-index l.columns)
      ≡ taking_columns (flag l.allowed) l.columns;
  few : l.count ≤ l.column-index;
}
