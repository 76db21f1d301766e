use Rattle.std.proofs.Common.{◌<◌, ◌≤◌, length, vec_capacity}
use Rattle.std.specs.List.{AllByRecursion}
use Rattle.csr_store.specs.Grid.{Cell}
use Rattle.row_product.proofs.Column.{SumsUp}
use Rattle.row_product.proofs.one_column.Summing.sum_cells.Given as goal

abbrev pub decreases-loop-cells : goal.decreases-loop-cells
decreases-loop-cells l = length l.cells

abbrev pub invariant-loop-cells : goal.invariant-loop-cells
invariant-loop-cells l = record {
  sums : SumsUp l.factors.add.now l.factors.mul.now l.factors.b.now l.row l.cells l.sum l.steps;
  named : AllByRecursion (λ (c : Cell). c.0 < l.factors.b.now.rows) l.cells;
  capacity : 64 ≤ vec_capacity l.self.terms;
}
