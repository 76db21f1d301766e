use Rattle.entry_ops.proofs.Placing.{IsPlacing}
use Rattle.entry_ops.proofs.emitter.put_values.Given as goal

abbrev pub invariant-loop-next : goal.invariant-loop-next
invariant-loop-next l = IsPlacing l.indices l.values l.fn.rows l.next l.rows
