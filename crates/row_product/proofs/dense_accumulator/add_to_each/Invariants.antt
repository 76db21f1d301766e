use Rattle.row_product.proofs.StandIn.{IsAdding}
use Rattle.row_product.proofs.dense_accumulator.add_to_each.Given as goal

abbrev pub invariant-loop-column : goal.invariant-loop-column
invariant-loop-column g l =
    IsAdding l.factors.add.now l.factors.mul.now l.term.x l.term.word l.fn.sums l.columns l.column-index l.sums l.steps
