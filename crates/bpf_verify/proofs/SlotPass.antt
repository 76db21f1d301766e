-- The slot pass: a program without slot faults leads from each instruction to higher ones.
use Rattle.std.proofs.Common.{◌≡◌, ◌<◌, ◌+◌, ℕ, zero, suc, arith, Bool, true, false, List, [], ◌∷◌, sym}
use Rattle.std.proofs.Common.{◌∙◌, ap, refl, subst, ◌⊎◌, inl, inr, ◌&&◌, cond}
use Rattle.std.specs.Prelude.{Option, Some, None, ℤ, pos, negsuc, ◌+ℤ◌, ◌==◌, not, IfNone, IfSome, is_some}
use Rattle.std.specs.List.{AllByRecursion}
use Rattle.std.proofs.lemmas.Bool.{cases_eq, cases_lt}
use Rattle.bpf_insn.specs.declared.reg.Reg.{Reg}
use Rattle.bpf_insn.specs.declared.insn.Insn.{Insn}
use Rattle.bpf_insn.specs.declared.insn.Insn.TheVariants.{Ja, Ja32, Jump, Exit, Wide}
use Rattle.bpf_insn.specs.declared.rule.CodeRule.{CodeRule}
use Rattle.bpf_insn.specs.declared.rule.CodeRule.TheVariants.{JumpsBack, JumpsNowhere, StackTopWritten, NoExitAtEnd}
use Rattle.bpf_insn.specs.Program.{insn_at, slot_count, slots_of}
use Rattle.bpf_insn.specs.Reads.{written_reg, is_r10}
use Rattle.bpf_insn.specs.Machine.{begins, goes_back, goes_nowhere}
use Rattle.bpf_insn.proofs.Slots.{begins_nowhere}
use Rattle.bpf_verify.specs.Slots.{jump_target, is_exit, ends_without_exit, slot_rule, HasNoSlotFaultBelow, HasNoSlotFault}
use Rattle.bpf_verify.specs.Slots.{IsSlotFault}
use Rattle.bpf_verify.specs.Paths.{targets}
use Rattle.bpf_verify.specs.inner.Pass.{IsGoodTarget}
use Rattle.bpf_verify.specs.inner.Pass.{IsClean}

same_insn : (o : Option Insn) (i j : Insn) → o ≡ Some i → o ≡ Some j → i ≡ j
same_insn o i j e f = cc

pub next_sound : (insns : List Insn) (n : ℕ) (i : Insn) (o : Option CodeRule) → insn_at insns n ≡ Some i
    → o ≡ slot_rule insns n i → IfNone o (HasNoSlotFaultBelow n insns → HasNoSlotFaultBelow (n + 1) insns)
next_sound insns n i (Some r) at e = tt
next_sound insns n i None at e = λ sound k j h here. elim (cases_eq k n) [
  | inl s ↦ (let same : i ≡ j = same_insn (insn_at insns n) i j at (ap (insn_at insns) (sym s) ∙ here) in ap (λ m. slot_rule insns m j) s ∙ ap (slot_rule insns n) (sym same) ∙ sym e)
  | inr d ↦ sound k j (omega arith) here
]

pub next_fault : (insns : List Insn) (n : ℕ) (i : Insn) (o : Option CodeRule) → insn_at insns n ≡ Some i
    → o ≡ slot_rule insns n i → IfSome o (λ rule. HasNoSlotFaultBelow n insns → IsSlotFault insns n rule)
next_fault insns n i None at e = tt
next_fault insns n i (Some r) at e = λ sound. record { insn = i; here = at; broken = sym e; before = sound }

pub next_skipped : (insns : List Insn) (n : ℕ) → insn_at insns n ≡ None → HasNoSlotFaultBelow n insns
    → HasNoSlotFaultBelow (n + 1) insns
next_skipped insns n none sound = λ k j h here. elim (cases_eq k n) [
  | inl s ↦ absurd (let x = sym none ∙ ap (insn_at insns) (sym s) ∙ here in cc)
  | inr d ↦ sound k j (omega arith) here
]

-- ---- an instruction is followed by another, or it is the last

first : (is : List Insn) → (slot_count is ≡ 0) ⊎ (begins is 0 ≡ true)
first [] = inl refl
first (i ∷ is) = inr refl

abbrev Follows : List Insn → ℕ → Type 0
Follows is slot = (slot ≡ slot_count is) ⊎ (begins is slot ≡ true)

one_on : (j : Insn) (is : List Insn) (k m : ℕ) → slots_of j ≡ 1 → begins (j ∷ is) (suc k) ≡ begins is k → m ≡ suc k
    → Follows is k → Follows (j ∷ is) m
one_on j is k m one s e (inl h) = inl (omega (arith, one, h, e))
one_on j is k m one s e (inr h) = inr (rw e (s ∙ h))

two_on : (d : Reg) (v : ℕ) (is : List Insn) (k m : ℕ) → m ≡ suc (suc k) → Follows is k → Follows (Wide d v ∷ is) m
two_on d v is k m e (inl h) = inl (omega (arith, h, e))
two_on d v is k m e (inr h) = inr (rw e h)

at_front : (is : List Insn) → Follows is 0
at_front is = elim (first is) [ inl e ↦ inl (sym e) | inr b ↦ inr b ]

same_some : (i j : Insn) → Some j ≡ Some i → j ≡ i
same_some i j e = cc

follows : (is : List Insn) (slot : ℕ) (i : Insn) → insn_at is slot ≡ Some i → Follows is (slot + slots_of i)
follows [] slot i e = absurd (cc)
follows (Wide d v ∷ is) zero i e =
    subst (λ k. Follows (Wide d v ∷ is) (0 + slots_of k)) (same_some i (Wide d v) e) (two_on d v is 0 2 refl (at_front is))
follows (Wide d v ∷ is) (suc zero) i e = absurd (cc)
follows (Wide d v ∷ is) (suc (suc k)) i e =
    two_on d v is (k + slots_of i) (suc (suc k) + slots_of i) (omega arith) (follows is k i e)
follows (j ∷ is) zero i e =
    subst (λ k. Follows (j ∷ is) (0 + slots_of k)) (same_some i j e) (one_on j is 0 1 refl refl refl (at_front is))
follows (j ∷ is) (suc k) i e = one_on j is (k + slots_of i) (suc k + slots_of i) refl refl (omega arith) (follows is k i e)

four : (a b c d : Bool) → cond a (Some JumpsBack) (cond b (Some JumpsNowhere) (cond c (Some StackTopWritten) (cond d (Some NoExitAtEnd) None))) ≡ None → (a ≡ false) × (b ≡ false) × (c ≡ false) × (d ≡ false)
four false false false false e = (refl, refl, refl, refl)
four true b c d e = absurd (cc)
four false true c d e = absurd (cc)
four false false true d e = absurd (cc)
four false false false true e = absurd (cc)

falls_on : (insns : List Insn) (slot : ℕ) (i : Insn) → ends_without_exit insns slot i ≡ false → is_exit i ≡ false
    → Follows insns (slot + slots_of i) → begins insns (slot + slots_of i) ≡ true
falls_on insns slot i e x (inr b) = b
falls_on insns slot i e x (inl h) = absurd (let y : (slot + slots_of i == slot_count insns) ≡ true = grind arith in let z : (true && not false) ≡ false = ap (λ b. b && not false) (sym y) ∙ ap (λ b. (slot + slots_of i == slot_count insns) && not b) (sym x) ∙ e in cc)

not_false : (b : Bool) → not b ≡ false → b ≡ true
not_false true e = refl
not_false false e = absurd (cc)

jump_good : (insns : List Insn) (slot : ℕ) (to : ℤ) → goes_back slot (Some to) ≡ false
    → goes_nowhere insns (Some to) ≡ false → IsGoodTarget insns slot to
jump_good insns slot (pos to) e f = record { destination = to; is_place = refl; above = grind arith; begin = not_false _ f }
jump_good insns slot (negsuc n) e f = absurd (cc)

fall_good : (insns : List Insn) (slot n : ℕ) → 0 < n → begins insns (slot + n) ≡ true
    → IsGoodTarget insns slot (pos (slot + n))
fall_good insns slot n h b = record { destination = slot + n; is_place = refl; above = omega arith; begin = b }

good : (insns : List Insn) (slot : ℕ) (i : Insn) → goes_back slot (jump_target slot i) ≡ false
    → goes_nowhere insns (jump_target slot i) ≡ false → (is_exit i ≡ false → begins insns (slot + slots_of i) ≡ true)
    → AllByRecursion (IsGoodTarget insns slot) (targets slot i)
good insns slot Exit e f g = tt
good insns slot (Ja off) e f g = (jump_good insns slot (pos (slot + 1) +ℤ off) e f, tt)
good insns slot (Ja32 off) e f g = (jump_good insns slot (pos (slot + 1) +ℤ off) e f, tt)
good insns slot (Jump w c l r off) e f g =
    (fall_good insns slot 1 (omega arith) (g refl), (jump_good insns slot (pos (slot + 1) +ℤ off) e f, tt))
good insns slot (Wide d v) e f g = (fall_good insns slot 2 (omega arith) (g refl), tt)
good insns slot _ e f g = (fall_good insns slot 1 (omega arith) (g refl), tt)

begins_at : (o : Option Insn) (i : Insn) → o ≡ Some i → is_some o ≡ true
begins_at o i e = rw e refl

-- an instruction begins inside the program
pub inside : (insns : List Insn) (slot : ℕ) (i : Insn) → insn_at insns slot ≡ Some i → slot < slot_count insns
inside insns slot i at = elim (cases_lt slot (slot_count insns)) [
  | inl h ↦ h
  | inr h ↦ absurd (let x = sym at ∙ begins_nowhere insns slot h in cc)
]

pub clean_of : (insns : List Insn) → HasNoSlotFault insns → IsClean insns
clean_of insns sound = λ slot i at.
    let n = four (goes_back slot (jump_target slot i)) (goes_nowhere insns (jump_target slot i)) (is_r10 (written_reg i)) (ends_without_exit insns slot i) (sound slot i (inside insns slot i at) at) in
    record { kept = n.2; targets_good = good insns slot i n.0 n.1 (λ x. falls_on insns slot i n.3 x (follows insns slot i at)) }

pub begins_inside : (insns : List Insn) (slot : ℕ) → begins insns slot ≡ true → slot < slot_count insns
begins_inside insns slot b = elim (cases_lt slot (slot_count insns)) [
  | inl h ↦ h
  | inr h ↦ absurd (let x : false ≡ true = ap is_some (sym (begins_nowhere insns slot h)) ∙ b in cc)
]
