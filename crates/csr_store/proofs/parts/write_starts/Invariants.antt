use Rattle.std.proofs.Common.{◌-◌, length}
use Rattle.csr_store.proofs.Parting.{Upto}
use Rattle.csr_store.proofs.parts.write_starts.Given as goal

abbrev pub invariant-loop-part : goal.invariant-loop-part
invariant-loop-part l = Upto l.fn.positions l.starts l.fn.starts l.bits l.part l.next

abbrev pub invariant-loop-next : goal.invariant-loop-next
invariant-loop-next l = Upto l.fn.positions l.starts l.fn.starts l.bits l.part l.next

abbrev pub decreases-loop-next : goal.decreases-loop-next
decreases-loop-next l = length l.fn.positions - l.next
