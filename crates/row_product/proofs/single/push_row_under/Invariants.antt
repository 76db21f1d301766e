use Rattle.std.proofs.Common.{◌≡◌, ◌≤◌, ◌+◌, ◌*◌, length}
use Rattle.bpf_run.specs.Calls.{calls_on, pairs_with}
use Rattle.bpf_run.proofs.Charging.{Spends}
use Rattle.csr_store.specs.Grid.{row_of}
use Rattle.row_product.specs.inner.Adding.{taking}
use Rattle.row_product.specs.inner.RowUnderMask.{stores, IsRowUnderMask}
use Rattle.row_product.specs.inner.Single.{multiplied}
use Rattle.row_product.proofs.Multiplying.{Pushing}
use Rattle.row_product.proofs.single.push_row_under.Given as goal

abbrev pub decreases-loop-row : goal.decreases-loop-row
decreases-loop-row l = length l.row.cells.now

abbrev pub invariant-loop-row : goal.invariant-loop-row
invariant-loop-row l = record {
  pushing : Pushing l.fn.making.rows (multiplied l.factors.mul.now l.x (taking (stores l.stored) (row_of l.factors.b.now l.k)))
      l.making.rows (taking (stores l.stored) l.row.cells.now)
      (multiplied l.factors.mul.now l.x (taking (stores l.stored) l.row.cells.now));
  spends : Spends (calls_on l.factors.mul.now (pairs_with l.x (taking (stores l.stored) (row_of l.factors.b.now l.k))))
      l.fn.making.steps (calls_on l.factors.mul.now (pairs_with l.x (taking (stores l.stored) l.row.cells.now))) l.making.steps;
  few : l.making.steps + 8192 * length (taking (stores l.stored) l.row.cells.now)
      ≤ l.fn.making.steps + 8192 * length (taking (stores l.stored) (row_of l.factors.b.now l.k));
  beside : IsRowUnderMask l.stored l.factors.b.now.columns l.row.cells.now l.row.mask;
  sums : l.progress.sums ≡ l.fn.progress.sums;
  allowed : l.progress.allowed ≡ l.fn.progress.allowed;
  capacity : 64 ≤ length l.progress.passing.items;
  columns : l.progress.passing_columns ≡ l.fn.progress.passing_columns;
}
