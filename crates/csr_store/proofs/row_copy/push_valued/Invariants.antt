use Rattle.std.proofs.Common.{◌≡◌, ◌≤◌, ◌++◌, length, drop, vec_capacity}
use Rattle.csr_store.proofs.Valuing.{AreSet}
use Rattle.csr_store.proofs.row_copy.push_valued.Given as goal

abbrev pub invariant-loop-value : goal.invariant-loop-value
invariant-loop-value l = record {
  set : AreSet (length l.fn.written.items) l.values (l.fn.written.items ++ l.columns) l.value-index (length l.written.items) (l.written.items ++ drop l.next l.columns);
  at : l.next ≡ l.value-index;
  capacity : vec_capacity l.fn.written ≤ vec_capacity l.written;
}
