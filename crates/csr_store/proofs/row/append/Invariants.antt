use Rattle.std.proofs.Common.{◌≡◌, ◌++◌, length}
use Rattle.csr_store.proofs.row.append.Given as goal

abbrev pub invariant-loop-rest : goal.invariant-loop-rest
invariant-loop-rest l = l.cells.items ++ l.rest ≡ l.fn.cells.items ++ l.more

abbrev pub decreases-loop-rest : goal.decreases-loop-rest
decreases-loop-rest l = length l.rest
