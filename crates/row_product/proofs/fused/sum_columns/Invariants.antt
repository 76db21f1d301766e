use Rattle.std.proofs.Common.{Some, drop}
use Rattle.row_product.specs.inner.StandIn.{cells_with}
use Rattle.row_product.proofs.Column.{SumsUp}
use Rattle.row_product.proofs.fused.sum_columns.Given as goal

abbrev pub invariant-loop-n : goal.invariant-loop-n
invariant-loop-n g l =
    SumsUp l.factors.add.now l.factors.mul.now l.factors.b.now (cells_with l.x l.columns) (drop l.n (cells_with l.x l.columns))
    (Some l.sum) l.steps
