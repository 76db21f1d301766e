-- What is wrong with a slot. The rules and their order are this project's own; the forms that lie outside the profile are
-- calls (RFC 9669, section 4.3), atomic operations (5.3), legacy packet access (5.5) and wide loads of other things
-- than a number (5.4).
use Rattle.std.specs.Prelude.{ℕ, ◌≡◌, ◌≢◌, List, [], ◌∷◌, Bool, true, false, take, drop, ◌==◌, ◌||◌}
use Rattle.std.specs.Prelude.{◌&&◌, not, nat_lt}
use Rattle.bpf_insn.specs.declared.slot.Slot.{Slot}
use Rattle.bpf_insn.specs.declared.rule.CodeRule.{CodeRule}
use Rattle.bpf_insn.specs.declared.rule.CodeRule.TheVariants.{UnknownOpcode, OutsideProfile, RegisterAboveTen, UnusedField}
use Rattle.bpf_insn.specs.declared.rule.CodeRule.TheVariants.{BrokenWideLoad}
use Rattle.bpf_insn.specs.declared.opcode.Opcode.{Opcode}
use Rattle.bpf_insn.specs.Rule.{IsLowest}
use Rattle.bpf_insn.specs.Opcode.{number_of}
use Rattle.bpf_insn.specs.Fields.{uses_dst, uses_src, allows_offset, allows_imm}
use Rattle.bpf_insn.specs.Spelling.{slot_bytes, FitsSlot}

-- CALL; atomic operations on 32 and 64 bits; legacy packet access, absolute and indirect, of 32, 16 and 8 bits
abbrev pub is_left_out : ℕ → Bool
is_left_out n = n == 0x85 || n == 0xc3 || n == 0xdb || n == 0x20 || n == 0x28 || n == 0x30 || n == 0x40 || n == 0x48 || n == 0x50

-- one of these, or a wide load whose source field is not 0
abbrev pub is_outside_profile : Slot → Bool
is_outside_profile s = is_left_out s.opcode || (s.opcode == 0x18 && not (s.src == 0))

-- a register field that the opcode uses is above 10
abbrev pub has_bad_register : Opcode → Slot → Bool
has_bad_register o s = (uses_dst o && nat_lt 10 s.dst) || (uses_src o && nat_lt 10 s.src)

-- a field that is not used is not 0, or one of few values has another
abbrev pub has_bad_field : Opcode → Slot → Bool
has_bad_field o s =
    (not (uses_dst o) && nat_lt 0 s.dst) || (not (uses_src o) && nat_lt 0 s.src)
    || not (allows_offset o s.offset) || not (allows_imm o s.imm)

-- the bytes begin with this slot, and it breaks the rule; no other rule speaks of the form of a slot
abbrev pub SlotBreaks : Slot → List ℕ → CodeRule → Type 0
SlotBreaks s bytes UnknownOpcode = (is_outside_profile s ≡ false) × ((o : Opcode) → number_of o ≢ s.opcode)
SlotBreaks s bytes OutsideProfile = is_outside_profile s ≡ true
SlotBreaks s bytes RegisterAboveTen = (o : Opcode) × (number_of o ≡ s.opcode) × (has_bad_register o s ≡ true)
SlotBreaks s bytes UnusedField = (o : Opcode) × (number_of o ≡ s.opcode) × (has_bad_field o s ≡ true)
SlotBreaks s bytes BrokenWideLoad = (s.opcode ≡ 0x18) × (take 4 (drop 8 bytes) ≢ 0 ∷ 0 ∷ 0 ∷ 0 ∷ [])
SlotBreaks s bytes _ = ⊥

-- the first slot of the bytes breaks the rule, and none of a lower number
pub record IsBrokenAtFront (bytes : List ℕ) (rule : CodeRule) : Type 0 where
  pub slot : Slot
  pub fits : FitsSlot slot
  pub read : slot_bytes slot ≡ take 8 bytes
  pub fault : IsLowest (SlotBreaks slot bytes) rule
