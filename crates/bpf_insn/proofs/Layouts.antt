-- Instructions, their slots and their code, put one after the other.
use Rattle.std.proofs.Common.{◌≡◌, ◌≤◌, ◌+◌, ◌*◌, arith, List, [], ◌∷◌, ◌++◌, length, sym, ◌∙◌}
use Rattle.std.proofs.Common.{ap, refl, append_assoc, length-append}
use Rattle.std.proofs.lemmas.List.{append-nil}
use Rattle.std.specs.Prelude.{Option, Some, None}
use Rattle.std.specs.List.{AllByRecursion}
use Rattle.bpf_insn.specs.declared.insn.Insn.{Insn}
use Rattle.bpf_insn.specs.Spelling.{spelling, Fits}
use Rattle.bpf_insn.specs.Program.{slots_of, slot_count, insns_of}
use Rattle.bpf_insn.specs.inner.Program.{cells_of, layout}
use Rattle.bpf_insn.specs.Code.{code_of}

pub insns_of-append : (a b : List (Option Insn)) → insns_of (a ++ b) ≡ insns_of a ++ insns_of b
insns_of-append [] b = refl
insns_of-append (Some i ∷ a) b = ap (λ is. i ∷ is) (insns_of-append a b)
insns_of-append (None ∷ a) b = insns_of-append a b

pub insns_of-cells_of : (i : Insn) → insns_of (cells_of i) ≡ i ∷ []
insns_of-cells_of i = grind arith

pub insns_of-layout : (is : List Insn) → insns_of (layout is) ≡ is
insns_of-layout [] = refl
insns_of-layout (i ∷ is) = insns_of-append (cells_of i) (layout is) ∙ ap (λ x. x ++ insns_of (layout is)) (insns_of-cells_of i) ∙ ap (λ x. i ∷ x) (insns_of-layout is)

length-cells_of : (i : Insn) → length (cells_of i) ≡ slots_of i
length-cells_of i = grind arith

pub slots_of-some : (i : Insn) → 1 ≤ slots_of i
slots_of-some i = grind arith

pub length-spelling : (i : Insn) → length (spelling i) ≡ 8 * slots_of i
length-spelling i = grind arith

pub length-layout : (is : List Insn) → length (layout is) ≡ slot_count is
length-layout [] = refl
length-layout (i ∷ is) = omega (arith, length-append (cells_of i) (layout is), length-cells_of i, length-layout is)

pub length-code_of : (is : List Insn) → length (code_of is) ≡ 8 * slot_count is
length-code_of [] = refl
length-code_of (i ∷ is) = omega (arith, length-append (spelling i) (code_of is), length-spelling i, length-code_of is)

pub all-append : (a b : List Insn) → AllByRecursion Fits a → AllByRecursion Fits b → AllByRecursion Fits (a ++ b)
all-append [] b p q = q
all-append (i ∷ a) b p q = (p.0, all-append a b p.1 q)

pub slot_count-append : (a b : List Insn) → slot_count (a ++ b) ≡ slot_count a + slot_count b
slot_count-append [] b = omega arith
slot_count-append (i ∷ a) b = omega (arith, slot_count-append a b)

pub code_of-append : (a b : List Insn) → code_of (a ++ b) ≡ code_of a ++ code_of b
code_of-append [] b = refl
code_of-append (i ∷ a) b =
    ap (λ x. spelling i ++ x) (code_of-append a b) ∙ sym (append_assoc (spelling i) (code_of a) (code_of b))

pub layout-append : (a b : List Insn) → layout (a ++ b) ≡ layout a ++ layout b
layout-append [] b = refl
layout-append (i ∷ a) b = ap (λ x. cells_of i ++ x) (layout-append a b) ∙ sym (append_assoc (cells_of i) (layout a) (layout b))

-- one instruction more

pub code_of-one : (is : List Insn) (i : Insn) → code_of (is ++ i ∷ []) ≡ code_of is ++ spelling i
code_of-one is i = code_of-append is (i ∷ []) ∙ ap (λ x. code_of is ++ x) (append-nil (spelling i))

pub layout-one : (is : List Insn) (i : Insn) → layout (is ++ i ∷ []) ≡ layout is ++ cells_of i
layout-one is i = layout-append is (i ∷ []) ∙ ap (λ x. layout is ++ x) (append-nil (cells_of i))

pub slot_count-one : (is : List Insn) (i : Insn) → slot_count (is ++ i ∷ []) ≡ slot_count is + slots_of i
slot_count-one is i = omega (arith, slot_count-append is (i ∷ []))

pub insns_of-one : (cells : List (Option Insn)) (i : Insn) → insns_of (cells ++ cells_of i) ≡ insns_of cells ++ i ∷ []
insns_of-one cells i = insns_of-append cells (cells_of i) ∙ ap (λ x. insns_of cells ++ x) (insns_of-cells_of i)
