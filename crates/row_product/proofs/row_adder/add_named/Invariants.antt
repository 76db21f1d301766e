use Rattle.std.proofs.Common.{◌≡◌, ◌≤◌, ◌*◌, drop}
use Rattle.csr_store.specs.Grid.{limit}
use Rattle.row_product.specs.inner.Progress.{IsReady, stands}
use Rattle.row_product.specs.inner.Sums.{takes}
use Rattle.row_product.proofs.Gathering.{Gathering}
use Rattle.row_product.proofs.row_adder.add_named.Given as goal

abbrev pub invariant-loop-k : goal.invariant-loop-k
invariant-loop-k g l = record {
  gathering : Gathering l.factors.add.now l.factors.mul.now l.factors.b.now l.factors.b.now.columns
      (takes l.masked l.fn.progress.allowed.items) (stands l.fn.progress) l.row (stands l.progress) (drop l.k l.row) l.steps;
  few : l.steps ≤ 8192 * limit * l.k;
  ready : IsReady l.factors.b.now.columns l.progress;
  allowed : l.progress.allowed ≡ l.fn.progress.allowed;
}
