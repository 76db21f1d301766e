-- What a step of the tagged machine answers, and what it leaves. The answers are this project's own.
use Rattle.std.specs.Prelude.{◌≡◌, ◌≤◌, true, List, Some}
use Rattle.bpf_insn.specs.declared.insn.Insn.{Insn}
use Rattle.bpf_insn.specs.declared.machine.stepped.Stepped.{Stepped}
use Rattle.bpf_insn.specs.declared.machine.stepped.Stepped.TheVariants.{Went, Done, Stuck}
use Rattle.bpf_insn.specs.Program.{slot_count}
use Rattle.bpf_insn.specs.Machine.{State, slot_of, IsStep, IsStuckBy, is_at_insn}
use Rattle.bpf_insn.specs.Machine as machine

-- any program may be stepped from here: an instruction of it begins at the machine's slot
abbrev pub IsReady : State → Type 0
IsReady s = (insns : List Insn) → 1 ≤ slot_count insns → is_at_insn insns s ≡ true

-- A step answers so, and leaves the new state: it went to a state that runs on; it is done, with a value; or it is
-- stuck at a slot, by the rule of the lowest number that it breaks there, and the state is as it was.
abbrev pub IsStepped : List Insn → State → Stepped → State → Type 0
IsStepped insns old Went new = IsStep insns old new × (is_at_insn insns new ≡ true)
IsStepped insns old (Done v) new = IsStep insns old new × (new ≡ machine.Done v)
IsStepped insns old (Stuck fault) new = IsStuckBy insns old fault.rule × (slot_of old ≡ Some fault.slot) × (new ≡ old)
