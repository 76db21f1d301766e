use Rattle.csr_store.proofs.Marking.{Kept}
use Rattle.csr_store.proofs.repeat.keep_repeats.Given as goal

abbrev pub invariant-loop-nth : goal.invariant-loop-nth
invariant-loop-nth l = Kept l.fn.cells.items l.cells.items l.repeats l.nth
