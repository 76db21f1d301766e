use Rattle.row_product.proofs.Summing.{IsSumming}
use Rattle.row_product.proofs.terms.add_terms.Given as goal

abbrev pub invariant-loop-k : goal.invariant-loop-k
invariant-loop-k g l = IsSumming l.add l.fn.sums l.cells l.terms l.k l.sums l.steps
