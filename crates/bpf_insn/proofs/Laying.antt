-- The slots of instructions, laid out one instruction after the other.
use Rattle.std.proofs.Common.{◌≡◌, ◌≢◌, ◌<◌, ◌≤◌, ◌+◌, ℕ, arith, List, [], ◌∷◌, ◌++◌, length}
use Rattle.std.proofs.Common.{take, get_or, sym, ◌∙◌, ap, refl, subst, zero, suc}
use Rattle.std.specs.Prelude.{pos}
use Rattle.std.specs.List.{AllByRecursion}
use Rattle.std.proofs.lemmas.List.{take_more}
use Rattle.bpf_insn.specs.declared.insn.Insn.{Insn}
use Rattle.bpf_insn.specs.declared.insn.Insn.TheVariants.{Alu}
use Rattle.bpf_insn.specs.declared.insn.Width.TheVariants.{W32}
use Rattle.bpf_insn.specs.declared.insn.AluOp.TheVariants.{Add}
use Rattle.bpf_insn.specs.declared.insn.Operand.TheVariants.{Imm}
use Rattle.bpf_insn.specs.declared.reg.Reg.TheVariants.{R0}
use Rattle.bpf_insn.specs.Spelling.{Fits}
use Rattle.bpf_insn.specs.Program.{slots_of, slot_count, IsProgram}
use Rattle.bpf_insn.specs.inner.Program.{cells_of, layout, IsLaid}
use Rattle.bpf_insn.proofs.Layouts.{slot_count-one, slots_of-some, layout-one, insns_of-layout, all-append}

-- what stands past the end of a list of instructions
abbrev pub past_end : Insn
past_end = Alu W32 Add R0 (Imm (pos 0))

pub slot_count-take : (is : List Insn) (n : ℕ) → n < length is
    → slot_count (take (n + 1) is) ≡ slot_count (take n is) + slots_of (get_or is n past_end)
slot_count-take is n h = ap slot_count (take_more is n past_end h) ∙ slot_count-one (take n is) (get_or is n past_end)

pub layout-take : (is : List Insn) (n : ℕ) → n < length is
    → layout (take (n + 1) is) ≡ layout (take n is) ++ cells_of (get_or is n past_end)
layout-take is n h = ap layout (take_more is n past_end h) ∙ layout-one (take n is) (get_or is n past_end)

pub fits-take : (is : List Insn) (n : ℕ) → n < length is → AllByRecursion Fits (take n is) → Fits (get_or is n past_end)
    → AllByRecursion Fits (take (n + 1) is)
fits-take is n h all one =
    let P : List Insn → Type 0 = AllByRecursion Fits in
    subst P (sym (take_more is n past_end h)) (all-append (take n is) (get_or is n past_end ∷ []) all (one, tt))

pub slot_count-take_le : (is : List Insn) (n : ℕ) → slot_count (take n is) ≤ slot_count is
slot_count-take_le [] zero = omega arith
slot_count-take_le [] (suc n) = omega arith
slot_count-take_le (i ∷ is) zero = omega arith
slot_count-take_le (i ∷ is) (suc n) = omega (arith, slot_count-take_le is n)

pub some_slots : (is : List Insn) → is ≢ [] → 1 ≤ slot_count is
some_slots [] h = absurd (h refl)
some_slots (i ∷ is) h = omega (arith, slots_of-some i)

pub layout-laid : (is : List Insn) → IsProgram is → IsLaid (layout is)
layout-laid is p = let e = insns_of-layout is in record { same = ap layout (sym e); program = subst IsProgram (sym e) p }
