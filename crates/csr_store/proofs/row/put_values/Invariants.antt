use Rattle.std.proofs.Common.{◌≡◌, ◌+◌, length}
use Rattle.csr_store.specs.Valued.{valued_from}
use Rattle.csr_store.proofs.row.put_values.Given as goal

abbrev pub invariant-loop-rest : goal.invariant-loop-rest
invariant-loop-rest l = (valued_from l.entry l.rest l.cells ≡ valued_from l.from l.values l.fn.cells)
    × (l.entry + length l.rest ≡ l.from + length l.values) × (length l.cells ≡ length l.fn.cells)

abbrev pub decreases-loop-rest : goal.decreases-loop-rest
decreases-loop-rest l = length l.rest
