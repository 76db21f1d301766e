use Rattle.bpf_insn.proofs.Slots.{begins_past}
use Rattle.bpf_insn.proofs.machine.jumps.begins.Goals as goal

pub returns-else-slot-slots-clause-value : goal.returns-else-slot-slots-clause-value
returns-else-slot-slots-clause-value c =
    begins_past c.args.program.now c.args.slot c.slots.result c.slots.ensures.count c.if-slot-slots.false
