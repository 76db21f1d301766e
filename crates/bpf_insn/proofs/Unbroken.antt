-- A slot that begins an instruction breaks no rule.
use Rattle.std.proofs.Common.{◌≡◌, ◌≢◌, ◌<◌, ◌%◌, nat_lt, ℕ, arith, Bool, true, false, List, [], ◌∷◌}
use Rattle.std.proofs.Common.{◌++◌, take, drop, sym, ◌∙◌, ap, refl, subst}
use Rattle.bpf_insn.specs.declared.slot.Slot.{Slot}
use Rattle.bpf_insn.specs.declared.reg.Reg.{Reg}
use Rattle.bpf_insn.specs.declared.rule.CodeRule.{CodeRule}
use Rattle.bpf_insn.specs.declared.rule.CodeRule.TheVariants.{UnknownOpcode, OutsideProfile, RegisterAboveTen, UnusedField}
use Rattle.bpf_insn.specs.declared.rule.CodeRule.TheVariants.{BrokenWideLoad}
use Rattle.bpf_insn.specs.declared.insn.Width.{Width}
use Rattle.bpf_insn.specs.declared.insn.Insn.{Insn}
use Rattle.bpf_insn.specs.declared.insn.Insn.TheVariants as insns
use Rattle.bpf_insn.specs.declared.insn.Cond.{Cond}
use Rattle.bpf_insn.specs.declared.opcode.Source.{Source}
use Rattle.bpf_insn.specs.declared.opcode.Opcode.{Opcode}
use Rattle.bpf_insn.specs.declared.opcode.Opcode.TheVariants.{Alu, Jump, Wide}
use Rattle.bpf_insn.specs.Opcode.{number_of, operation, source_bit, alu_class, jump_class, code_number, cond_number}
use Rattle.bpf_insn.specs.Broken.{is_outside_profile, has_bad_register, has_bad_field, SlotBreaks, IsBrokenAtFront}
use Rattle.bpf_insn.specs.Spelling.{first_slot, slot_bytes, spelling, Fits, number_of_reg}
use Rattle.bpf_insn.proofs.Opcodes.{number_of-injective}
use Rattle.bpf_insn.proofs.Inverse.{opcode_of_insn, numbered, same_fields, first_slot_fits}
use Rattle.bpf_insn.proofs.Faults.{moved}
use Rattle.bpf_insn.proofs.Reading.{spelling_first, back_of, extension_not_wide}

reg_few : (r : Reg) → nat_lt 10 (number_of_reg r) ≡ false
reg_few r = grind arith

inside_by_class : (s : Slot) → 3 < s.opcode % 8 → s.opcode ≢ 0x85 → is_outside_profile s ≡ false
inside_by_class s h g = grind arith

alu_class_above : (c : ℕ) (s : Source) (w : Width) → 3 < operation c (source_bit s) (alu_class w) % 8
alu_class_above c s w = grind arith

jump_class_above : (c : ℕ) (s : Source) (w : Width) → 3 < operation c (source_bit s) (jump_class w) % 8
jump_class_above c s w = grind arith

alu_no_call : (c : ℕ) (s : Source) (w : Width) → operation c (source_bit s) (alu_class w) ≢ 0x85
alu_no_call c s w e = grind arith

jump_no_call : (c : Cond) (s : Source) (w : Width) → operation (cond_number c) (source_bit s) (jump_class w) ≢ 0x85
jump_no_call c s w e = grind arith

inside_number : (o : Opcode) (s : Slot) → number_of o ≡ s.opcode → (o ≡ Wide → s.src ≡ 0)
    → is_outside_profile s ≡ false
inside_number (Alu w c x) s e h =
    inside_by_class s (rw (← e) (alu_class_above (code_number c) x w)) (λ f. alu_no_call (code_number c) x w (e ∙ f))
inside_number (Jump w c x) s e h =
    inside_by_class s (rw (← e) (jump_class_above (cond_number c) x w)) (λ f. jump_no_call c x w (e ∙ f))
inside_number Wide s e h = let src = h refl in grind arith
inside_number o s e h = grind arith

good_registers : (i : Insn) → has_bad_register (opcode_of_insn i) (first_slot i) ≡ false
good_registers i = grind (arith, reg_few)

good_fields : (i : Insn) → has_bad_field (opcode_of_insn i) (first_slot i) ≡ false
good_fields i = grind (arith, reg_few)

wide_source : (i : Insn) → opcode_of_insn i ≡ Wide → (first_slot i).src ≡ 0
wide_source (insns.Wide d v) e = refl
wide_source (insns.Movsx x d s) e = absurd (extension_not_wide x e)
wide_source i e = cc

inside : (i : Insn) → is_outside_profile (first_slot i) ≡ false
inside i = inside_number (opcode_of_insn i) (first_slot i) (sym (numbered i)) (wide_source i)

-- the second slot of a wide load begins with four zeros
zeros : (i : Insn) (x : List ℕ) → opcode_of_insn i ≡ Wide → take 4 (drop 8 (spelling i ++ x)) ≡ 0 ∷ 0 ∷ 0 ∷ 0 ∷ []
zeros (insns.Wide d v) x e = refl
zeros (insns.Movsx y d s) x e = absurd (extension_not_wide y e)
zeros i x e = cc

true_not_false : (b : Bool) → b ≡ true → b ≡ false → ⊥
true_not_false b e f = cc

unbroken : (i : Insn) (x : List ℕ) (rule : CodeRule) → SlotBreaks (first_slot i) (spelling i ++ x) rule → ⊥
unbroken i x UnknownOpcode b = b.1 (opcode_of_insn i) (sym (numbered i))
unbroken i x OutsideProfile b = true_not_false (is_outside_profile (first_slot i)) b (inside i)
unbroken i x RegisterAboveTen b = true_not_false _ (moved (λ p. has_bad_register p (first_slot i)) (opcode_of_insn i) b.0 (first_slot i).opcode (sym (numbered i)) b.1 b.2) (good_registers i)
unbroken i x UnusedField b = true_not_false _ (moved (λ p. has_bad_field p (first_slot i)) (opcode_of_insn i) b.0 (first_slot i).opcode (sym (numbered i)) b.1 b.2) (good_fields i)
unbroken i x BrokenWideLoad b = b.1 (zeros i x (number_of-injective (opcode_of_insn i) Wide (sym (numbered i) ∙ b.0)))
unbroken i x _ b = b

front_bytes : (s : Slot) (x : List ℕ) → take 8 (slot_bytes s ++ x) ≡ slot_bytes s
front_bytes s x = refl

-- bytes that begin with an instruction are not broken there
pub spelled-unbroken : (i : Insn) (x : List ℕ) (rule : CodeRule) → Fits i → IsBrokenAtFront (spelling i ++ x) rule → ⊥
spelled-unbroken i x rule f b =
    let read : slot_bytes b.slot ++ [] ≡ slot_bytes (first_slot i) ++ [] = ap (λ z. z ++ []) (b.read ∙ ap (take 8) (spelling_first i x) ∙ front_bytes (first_slot i) (back_of i ++ x)) in
    let same : b.slot ≡ first_slot i = (same_fields b.slot (first_slot i) [] [] b.fits (first_slot_fits i f) read).0 in
    let P : Slot → Type 0 = λ s. SlotBreaks s (spelling i ++ x) rule in
    unbroken i x rule (subst P same b.fault.broken)
