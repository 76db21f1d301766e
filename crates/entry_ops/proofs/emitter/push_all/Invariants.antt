use Rattle.entry_ops.proofs.Standing.{IsCopying}
use Rattle.entry_ops.proofs.emitter.push_all.Given as goal

abbrev pub invariant-loop-column : goal.invariant-loop-column
invariant-loop-column l = IsCopying l.cells l.fn.rows l.column-index l.rows
