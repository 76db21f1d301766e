use Rattle.bpf_verify.specs.Slots.{HasNoSlotFaultBelow}
use Rattle.bpf_verify.proofs.slot_pass.slot_fault.Given as goal

abbrev pub invariant-loop-slot : goal.invariant-loop-slot
invariant-loop-slot l = HasNoSlotFaultBelow l.slot l.program
