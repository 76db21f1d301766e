-- A fault of the fields is the slot's first.
use Rattle.std.proofs.Common.{◌≡◌, ◌<◌, ℕ, arith, List, Bool, true, false, ◌∙◌, sym}
use Rattle.bpf_insn.specs.Opcode.{number_of}
use Rattle.bpf_insn.specs.Rule.{rule_number, IsLowest}
use Rattle.bpf_insn.specs.Broken.{is_outside_profile, SlotBreaks, has_bad_register, has_bad_field}
use Rattle.bpf_insn.specs.declared.opcode.Opcode.{Opcode}
use Rattle.bpf_insn.specs.declared.slot.Slot.{Slot}
use Rattle.bpf_insn.specs.declared.rule.CodeRule.{CodeRule}
use Rattle.bpf_insn.specs.declared.rule.CodeRule.TheVariants.{BadLength, UnknownOpcode, OutsideProfile, RegisterAboveTen}
use Rattle.bpf_insn.specs.declared.rule.CodeRule.TheVariants.{UnusedField}
use Rattle.bpf_insn.proofs.Opcodes.{number_of-injective}

-- the opcode of a number is one
pub moved : (P : Opcode → Bool) (o p : Opcode) (n : ℕ) → number_of o ≡ n → number_of p ≡ n → P p ≡ true
    → P o ≡ true
moved P o p n e f h = let same : p ≡ o = number_of-injective p o (f ∙ sym e) in cc

none_below_register : (o : Opcode) (s : Slot) (bytes : List ℕ) → number_of o ≡ s.opcode → is_outside_profile s ≡ false
    → (lower : CodeRule) → rule_number lower < 4 → SlotBreaks s bytes lower → ⊥
none_below_register o s bytes e inside BadLength r b = b
none_below_register o s bytes e inside UnknownOpcode r b = b.1 o e
none_below_register o s bytes e inside OutsideProfile r b = cc
none_below_register o s bytes e inside _ r b = absurd (omega arith)

none_below_field : (o : Opcode) (s : Slot) (bytes : List ℕ) → number_of o ≡ s.opcode → is_outside_profile s ≡ false
    → has_bad_register o s ≡ false → (lower : CodeRule) → rule_number lower < 5 → SlotBreaks s bytes lower → ⊥
none_below_field o s bytes e inside good BadLength r b = b
none_below_field o s bytes e inside good UnknownOpcode r b = b.1 o e
none_below_field o s bytes e inside good OutsideProfile r b = cc
none_below_field o s bytes e inside good RegisterAboveTen r b =
    let h = moved (λ p. has_bad_register p s) o b.0 s.opcode e b.1 b.2 in cc
none_below_field o s bytes e inside good _ r b = absurd (omega arith)

pub bad_register_is_lowest : (o : Opcode) (s : Slot) (bytes : List ℕ) → number_of o ≡ s.opcode
    → is_outside_profile s ≡ false → has_bad_register o s ≡ true → IsLowest (SlotBreaks s bytes) RegisterAboveTen
bad_register_is_lowest o s bytes e inside h = record { broken = (o, e, h); lowest = none_below_register o s bytes e inside }

pub bad_field_is_lowest : (o : Opcode) (s : Slot) (bytes : List ℕ) → number_of o ≡ s.opcode → is_outside_profile s ≡ false
    → has_bad_register o s ≡ false → has_bad_field o s ≡ true → IsLowest (SlotBreaks s bytes) UnusedField
bad_field_is_lowest o s bytes e inside good h = record { broken = (o, e, h); lowest = none_below_field o s bytes e inside good }
