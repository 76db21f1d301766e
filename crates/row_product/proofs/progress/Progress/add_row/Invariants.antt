use Rattle.std.proofs.Common.{◌≡◌, ◌≤◌, ◌+◌, ◌*◌, length}
use Rattle.csr_store.specs.Grid.{row_of}
use Rattle.row_product.specs.inner.Progress.{IsReady, stands}
use Rattle.row_product.specs.inner.Sums.{takes}
use Rattle.row_product.proofs.Adding.{Adding}
use Rattle.row_product.proofs.progress.Progress.add_row.Given as goal

abbrev pub decreases-loop-cells : goal.decreases-loop-cells
decreases-loop-cells l = length l.cells

abbrev pub invariant-loop-cells : goal.invariant-loop-cells
invariant-loop-cells l = record {
  adding : Adding l.factors.add.now l.factors.mul.now l.x l.factors.b.now.columns (takes l.masked l.fn.self.allowed.items)
      (stands l.fn.self) (row_of l.factors.b.now l.k) (stands l.self) l.cells l.steps;
  few : l.steps + 8192 * length l.cells ≤ 8192 * length (row_of l.factors.b.now l.k);
  ready : IsReady l.factors.b.now.columns l.self;
  allowed : l.self.allowed ≡ l.fn.self.allowed;
}
