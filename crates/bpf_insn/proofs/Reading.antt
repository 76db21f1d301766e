-- No spelling begins another, and code is read in one way.
use Rattle.std.proofs.Common.{◌≡◌, ◌≢◌, ◌/◌, ◌%◌, ◌^◌, ℕ, arith, List, [], ◌++◌, sym, ◌∙◌, ap}
use Rattle.std.proofs.Common.{refl, append_assoc}
use Rattle.bpf_insn.specs.declared.reg.Reg.{Reg}
use Rattle.bpf_insn.specs.declared.insn.Insn.{Insn}
use Rattle.bpf_insn.specs.declared.insn.Insn.TheVariants as insns
use Rattle.bpf_insn.specs.declared.insn.Extension.{Extension}
use Rattle.bpf_insn.specs.declared.insn.Extension.TheVariants.{From8To32, From16To32, From8To64, From16To64, From32To64}
use Rattle.bpf_insn.specs.declared.opcode.Opcode.TheVariants.{Wide}
use Rattle.bpf_insn.specs.Spelling.{first_slot, second_slot, slot_bytes, spelling, Fits, opcode_of_extension}
use Rattle.bpf_insn.proofs.Opcodes.{number_of-injective}
use Rattle.bpf_insn.proofs.Inverse.{opcode_of_insn, numbered, first_slot-injective, same_fields, first_slot_fits, second_slot_fits}
use Rattle.bpf_insn.proofs.Inverse.{number_of_reg-injective}

-- the bytes after the first slot
abbrev pub back_of : Insn → List ℕ
back_of (insns.Wide d v) = slot_bytes (second_slot v)
back_of _ = []

pub spelling_front : (i : Insn) → spelling i ≡ slot_bytes (first_slot i) ++ back_of i
spelling_front i = grind arith

pub spelling_first : (i : Insn) (x : List ℕ) → spelling i ++ x ≡ slot_bytes (first_slot i) ++ (back_of i ++ x)
spelling_first i x = ap (λ f. f ++ x) (spelling_front i) ∙ append_assoc (slot_bytes (first_slot i)) (back_of i) x

-- a wide load's opcode is no other instruction's
same_opcode : (i j : Insn) → first_slot i ≡ first_slot j → opcode_of_insn i ≡ opcode_of_insn j
same_opcode i j e = number_of-injective _ _ (sym (numbered i) ∙ ap (λ s. s.opcode) e ∙ numbered j)

pub extension_not_wide : (e : Extension) → opcode_of_extension e ≢ Wide
extension_not_wide From8To32 h = cc
extension_not_wide From16To32 h = cc
extension_not_wide From8To64 h = cc
extension_not_wide From16To64 h = cc
extension_not_wide From32To64 h = cc

wide_ends : (d : Reg) (v : ℕ) (j : Insn) (x y : List ℕ) → Fits (insns.Wide d v) → Fits j → Wide ≡ opcode_of_insn j
    → first_slot (insns.Wide d v) ≡ first_slot j → slot_bytes (second_slot v) ++ x ≡ back_of j ++ y
    → (insns.Wide d v ≡ j) × (x ≡ y)
wide_ends d v (insns.Wide e w) x y f g o s t =
    let h = same_fields (second_slot v) (second_slot w) x y (second_slot_fits v f) (second_slot_fits w g) t in
    let r : d ≡ e = number_of_reg-injective d e (ap (λ p. p.dst) s) in
    let low : v % 2 ^ 32 ≡ w % 2 ^ 32 = ap (λ p. p.imm) s in
    let high : v / 2 ^ 32 ≡ w / 2 ^ 32 = ap (λ p. p.imm) h.0 in
    let n : v ≡ w = omega arith in
    (cc, h.1)
wide_ends d v (insns.Movsx e a b) x y f g o s t = absurd (extension_not_wide e (sym o))
wide_ends d v j x y f g o s t = cc

plain_ends : (i j : Insn) (x y : List ℕ) → Fits i → Fits j → opcode_of_insn i ≢ Wide → back_of i ≡ []
    → first_slot i ≡ first_slot j → back_of i ++ x ≡ back_of j ++ y → (i ≡ j) × (x ≡ y)
plain_ends i j x y f g p b s t =
    let e = first_slot-injective i j f g p s in
    let back : back_of j ≡ [] = sym (ap back_of e) ∙ b in
    (e, sym (ap (λ z. z ++ x) b) ∙ t ∙ ap (λ z. z ++ y) back)

ends : (i j : Insn) (x y : List ℕ) → Fits i → Fits j → first_slot i ≡ first_slot j → back_of i ++ x ≡ back_of j ++ y
    → (i ≡ j) × (x ≡ y)
ends (insns.Wide d v) j x y f g s t = wide_ends d v j x y f g (same_opcode (insns.Wide d v) j s) s t
ends (insns.Movsx e a b) j x y f g s t = plain_ends (insns.Movsx e a b) j x y f g (extension_not_wide e) refl s t
ends i j x y f g s t = plain_ends i j x y f g (λ e. cc) refl s t

-- no spelling begins another
pub spelling-injective : (i j : Insn) (x y : List ℕ) → Fits i → Fits j → spelling i ++ x ≡ spelling j ++ y
    → (i ≡ j) × (x ≡ y)
spelling-injective i j x y f g e =
    let h = same_fields (first_slot i) (first_slot j) (back_of i ++ x) (back_of j ++ y) (first_slot_fits i f) (first_slot_fits j g) (sym (spelling_first i x) ∙ e ∙ spelling_first j y) in
    ends i j x y f g h.0 h.1
