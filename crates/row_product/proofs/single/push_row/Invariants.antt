use Rattle.std.proofs.Common.{◌≡◌, ◌≤◌, ◌+◌, ◌*◌, length}
use Rattle.bpf_run.specs.Calls.{calls_on, pairs_with}
use Rattle.bpf_run.proofs.Charging.{Spends}
use Rattle.csr_store.specs.Grid.{row_of}
use Rattle.row_product.specs.inner.Single.{multiplied}
use Rattle.row_product.proofs.Multiplying.{Pushing}
use Rattle.row_product.proofs.single.push_row.Given as goal

abbrev pub decreases-loop-cells : goal.decreases-loop-cells
decreases-loop-cells l = length l.cells

abbrev pub invariant-loop-cells : goal.invariant-loop-cells
invariant-loop-cells l = record {
  pushing : Pushing l.fn.making.rows (multiplied l.factors.mul.now l.x (row_of l.factors.b.now l.k)) l.making.rows l.cells
      (multiplied l.factors.mul.now l.x l.cells);
  spends : Spends (calls_on l.factors.mul.now (pairs_with l.x (row_of l.factors.b.now l.k))) l.fn.making.steps
      (calls_on l.factors.mul.now (pairs_with l.x l.cells)) l.making.steps;
  few : l.making.steps + 8192 * length l.cells ≤ l.fn.making.steps + 8192 * length (row_of l.factors.b.now l.k);
  sums : l.sums ≡ l.fn.sums;
}
