use Rattle.row_product.proofs.Meeting.{Meets}
use Rattle.row_product.proofs.dense_accumulator.meet.Given as goal

abbrev pub invariant-loop-k : goal.invariant-loop-k
invariant-loop-k l = Meets l.fn.sums l.cells l.terms l.k l.sums l.additions
