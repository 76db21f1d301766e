-- Slot faults: what is wrong with a program whatever its registers hold (V7 to V10). They are this project's own.
use Rattle.std.specs.Prelude.{◌≡◌, ◌<◌, ℕ, ◌+◌, ℤ, pos, ◌+ℤ◌, Bool, true, false, if◌then◌else◌}
use Rattle.std.specs.Prelude.{◌&&◌, ◌==◌, not, List, Option, Some, None}
use Rattle.bpf_insn.specs.declared.insn.Insn.{Insn}
use Rattle.bpf_insn.specs.declared.insn.Insn.TheVariants.{Ja, Ja32, Jump, Exit}
use Rattle.bpf_insn.specs.declared.rule.CodeRule.{CodeRule}
use Rattle.bpf_insn.specs.declared.rule.CodeRule.TheVariants.{JumpsBack, JumpsNowhere, StackTopWritten, NoExitAtEnd}
use Rattle.bpf_insn.specs.Program.{slots_of, slot_count, insn_at}
use Rattle.bpf_insn.specs.Reads.{written_reg, is_r10}
use Rattle.bpf_insn.specs.Machine.{goes_back, goes_nowhere}

-- where the instruction jumps to, if it may jump
abbrev pub jump_target : ℕ → Insn → Option ℤ
jump_target slot (Ja off) = Some (pos (slot + 1) +ℤ off)
jump_target slot (Ja32 off) = Some (pos (slot + 1) +ℤ off)
jump_target slot (Jump w c l r off) = Some (pos (slot + 1) +ℤ off)
jump_target slot _ = None

abbrev pub is_exit : Insn → Bool
is_exit Exit = true
is_exit _ = false

-- it is the last instruction, and no EXIT
abbrev pub ends_without_exit : List Insn → ℕ → Insn → Bool
ends_without_exit insns slot i = (slot + slots_of i == slot_count insns) && not (is_exit i)

-- the lowest rule of V7 to V10 that the instruction at the slot breaks
abbrev pub slot_rule : List Insn → ℕ → Insn → Option CodeRule
slot_rule insns slot i =
    if goes_back slot (jump_target slot i) then Some JumpsBack else
    (if goes_nowhere insns (jump_target slot i) then Some JumpsNowhere else
    (if is_r10 (written_reg i) then Some StackTopWritten else
    (if ends_without_exit insns slot i then Some NoExitAtEnd else None)))

-- no slot below this one breaks such a rule
abbrev pub HasNoSlotFaultBelow : ℕ → List Insn → Type 0
HasNoSlotFaultBelow n insns =
    (slot : ℕ) (i : Insn) → slot < n → insn_at insns slot ≡ Some i → slot_rule insns slot i ≡ None

abbrev pub HasNoSlotFault : List Insn → Type 0
HasNoSlotFault insns = HasNoSlotFaultBelow (slot_count insns) insns

-- the slot fault: the lowest slot that breaks such a rule, and the lowest rule that it breaks
pub record IsSlotFault (insns : List Insn) (slot : ℕ) (rule : CodeRule) : Type 0 where
  pub insn : Insn
  pub here : insn_at insns slot ≡ Some insn
  pub broken : slot_rule insns slot insn ≡ Some rule
  pub before : HasNoSlotFaultBelow slot insns
