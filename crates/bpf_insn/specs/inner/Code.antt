-- Definitions beside specs/Code.antt for this crate's own modules and proofs.
use Rattle.std.specs.Prelude.{ℕ, ◌≡◌, ◌≤◌, ◌*◌, false, List, ◌++◌, length, drop}
use Rattle.bpf_insn.specs.declared.insn.Insn.{Insn}
use Rattle.bpf_insn.specs.declared.opcode.Opcode.{Opcode}
use Rattle.bpf_insn.specs.declared.slot.Slot.{Slot}
use Rattle.bpf_insn.specs.Opcode.{number_of}
use Rattle.bpf_insn.specs.Broken.{has_bad_register, has_bad_field}
use Rattle.bpf_insn.specs.Spelling.{spelling, slot_bytes, Fits}
use Rattle.bpf_insn.specs.Program.{slots_of}

-- the slot has this opcode, and its fields are right
pub record IsRight (o : Opcode) (s : Slot) : Type 0 where
  pub opcode : number_of o ≡ s.opcode
  pub registers : has_bad_register o s ≡ false
  pub fields : has_bad_field o s ≡ false

-- this slot alone spells the instruction
pub record IsOfSlot (i : Insn) (s : Slot) : Type 0 where
  pub fits : Fits i
  pub spelled : spelling i ≡ slot_bytes s
  pub one : slots_of i ≡ 1

-- the bytes begin with the instruction
pub record BeginsWith (bytes : List ℕ) (i : Insn) : Type 0 where
  pub fits : Fits i
  pub spelled : bytes ≡ spelling i ++ drop (8 * slots_of i) bytes
  pub whole : 8 * slots_of i ≤ length bytes
