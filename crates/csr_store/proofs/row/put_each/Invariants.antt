use Rattle.csr_store.proofs.Valuing.{AreSet}
use Rattle.csr_store.proofs.row.put_each.Given as goal

abbrev pub invariant-loop-value : goal.invariant-loop-value
invariant-loop-value l = AreSet l.from l.values l.fn.cells l.value-index l.entry l.cells
