use Rattle.entry_ops.proofs.Adding.{IsAdding}
use Rattle.entry_ops.proofs.folds.Folds.add_to.Given as goal

abbrev pub invariant-loop-value : goal.invariant-loop-value
invariant-loop-value l = IsAdding l.self.results l.fn.rows l.value-index l.rows
