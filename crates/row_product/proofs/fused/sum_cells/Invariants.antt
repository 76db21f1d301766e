use Rattle.std.proofs.Common.{drop}
use Rattle.row_product.proofs.Column.{SumsUp}
use Rattle.row_product.proofs.fused.sum_cells.Given as goal

abbrev pub invariant-loop-k : goal.invariant-loop-k
invariant-loop-k g l =
    SumsUp l.factors.add.now l.factors.mul.now l.factors.b.now l.row (drop l.k-index l.row) l.sum l.steps
