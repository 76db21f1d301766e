-- What a line breaks, and that a line which stands for an instruction breaks nothing.
use Rattle.std.proofs.Common.{◌≡◌, ◌≤◌, ◌<◌, ◌+◌, ◌^◌, ℕ, true, false, List, [], ◌∷◌, Option, length, refl, sym, ap, ◌∙◌, arith}
use Rattle.std.specs.List.{list_any}
use Rattle.std.proofs.lemmas.Bool.{false≢true}
use Rattle.std.proofs.lemmas.Int.{of_z-to_z}
use Rattle.std.specs.Int.{cast_signed, cast_unsigned, w64}
use Rattle.bpf_insn.specs.declared.insn.Operand.{Operand}
use Rattle.bpf_insn.specs.declared.insn.Operand.TheVariants as operands
use Rattle.bpf_insn.specs.declared.insn.Insn.{Insn}
use Rattle.bpf_insn.specs.declared.insn.Insn.TheVariants as insns
use Rattle.bpf_insn.specs.Spelling.{Fits}
use Rattle.bpf_insn.specs.Program.{slots_of, slot_count}
use Rattle.bpf_text.specs.declared.argument.Argument.{Argument}
use Rattle.bpf_text.specs.declared.argument.Argument.TheVariants as arguments
use Rattle.bpf_text.specs.declared.mnemonic.Mnemonic.{Mnemonic}
use Rattle.bpf_text.specs.declared.mnemonic.Mnemonic.TheVariants as mnemonics
use Rattle.bpf_text.specs.declared.rule.AsmRule.{AsmRule}
use Rattle.bpf_text.specs.declared.rule.AsmRule.TheVariants.{LineTooLong, UnknownMnemonic, MalformedOperands, UnknownRegister, NumberOutOfRange, BadLength}
use Rattle.bpf_text.specs.Rule.{rule_number}
use Rattle.bpf_text.specs.Mnemonics.{mnemonic_of, operands_of, argument_of_operand}
use Rattle.bpf_text.specs.Lines.{is_statement, mnemonic_in, arguments_in}
use Rattle.bpf_text.specs.Text.{Names, StandsFor, kinds, is_unknown, Misnames, Breaks, IsLowestBroken}
use Rattle.bpf_text.specs.inner.Reading.{IsLowestMisnamed}
use Rattle.bpf_text.proofs.Mnemonics.{mnemonic_text-injective}
use Rattle.bpf_text.proofs.Statements.{no_unknown, known_operands}

-- Of a statement.

broken_of : (before : List Insn) (line : List ℕ) (rule : AsmRule) → is_statement line ≡ true → Misnames (mnemonic_in line) (arguments_in line) rule → Breaks before line rule
broken_of before line LineTooLong s m = absurd m
broken_of before line UnknownMnemonic s m = (s, m)
broken_of before line MalformedOperands s m = (s, m)
broken_of before line UnknownRegister s m = (s, m)
broken_of before line NumberOutOfRange s m = (s, m)
broken_of before line BadLength s m = absurd m

misnamed_of : (before : List Insn) (line : List ℕ) (rule : AsmRule) → length line ≤ 1024 → rule_number rule < 6 → Breaks before line rule → Misnames (mnemonic_in line) (arguments_in line) rule
misnamed_of before line LineTooLong l h b = absurd (omega arith)
misnamed_of before line UnknownMnemonic l h b = b.1
misnamed_of before line MalformedOperands l h b = b.1
misnamed_of before line UnknownRegister l h b = b.1
misnamed_of before line NumberOutOfRange l h b = b.1
misnamed_of before line BadLength l h b = absurd (omega arith)

number-le : (rule : AsmRule) → rule_number rule ≤ 6
number-le BadLength = omega arith
number-le _ = omega arith

pub lowest_of : (before : List Insn) (line : List ℕ) (rule : AsmRule) → is_statement line ≡ true → length line ≤ 1024 → IsLowestMisnamed (mnemonic_in line) (arguments_in line) rule → IsLowestBroken before line rule
lowest_of before line rule s l m = record {
  broken = broken_of before line rule s m.broken;
  lowest = λ lower h b. m.lowest lower h (misnamed_of before line lower l (let few = number-le rule in omega arith) b);
}

number-positive : (rule : AsmRule) → 1 ≤ rule_number rule
number-positive BadLength = omega arith
number-positive _ = omega arith

pub too_long : (before : List Insn) (line : List ℕ) → 1024 < length line → IsLowestBroken before line LineTooLong
too_long before line l = record { broken = l; lowest = λ lower h b. let some = number-positive lower in omega arith }

-- One instruction has a form and operands.

same_operand : (s t : Operand) → argument_of_operand s ≡ argument_of_operand t → s ≡ t
same_operand (operands.Imm n) (operands.Imm m) e = let same : n ≡ m = cc in ap operands.Imm same
same_operand (operands.Imm n) (operands.Register r) e = absurd (cc)
same_operand (operands.Register r) (operands.Imm n) e = absurd (cc)
same_operand (operands.Register r) (operands.Register s) e = let same : r ≡ s = cc in ap operands.Register same

same_word : (v w : ℕ) → v < 2 ^ 64 → w < 2 ^ 64 → cast_signed w64 v ≡ cast_signed w64 w → v ≡ w
same_word v w a b e = sym (of_z-to_z w64 v a) ∙ (ap (cast_unsigned w64) e ∙ of_z-to_z w64 w b)

-- an instruction from its form and its operands, where the word of a wide load is told by its signed reading
abbrev of_operand : Argument → Operand
of_operand (arguments.Register r) = operands.Register r
of_operand (arguments.Number n) = operands.Imm n
of_operand _ = operands.Imm (cast_signed w64 0)

operand-of : (s : Operand) → of_operand (argument_of_operand s) ≡ s
operand-of (operands.Imm n) = refl
operand-of (operands.Register r) = refl

abbrev insn_from : Mnemonic → List Argument → Insn
insn_from (mnemonics.Alu w op) (arguments.Register d ∷ s ∷ []) = insns.Alu w op d (of_operand s)
insn_from (mnemonics.Neg w) (arguments.Register d ∷ []) = insns.Neg w d
insn_from (mnemonics.Movsx e) (arguments.Register d ∷ arguments.Register s ∷ []) = insns.Movsx e d s
insn_from (mnemonics.End o z) (arguments.Register d ∷ []) = insns.End o z d
insn_from mnemonics.Ja (arguments.Number n ∷ []) = insns.Ja n
insn_from mnemonics.Ja32 (arguments.Number n ∷ []) = insns.Ja32 n
insn_from (mnemonics.Jump w c) (arguments.Register l ∷ r ∷ arguments.Number n ∷ []) = insns.Jump w c l (of_operand r) n
insn_from (mnemonics.Ldx z) (arguments.Register d ∷ arguments.Register b ∷ arguments.Number n ∷ []) = insns.Ldx z d b n
insn_from (mnemonics.Ldsx z) (arguments.Register d ∷ arguments.Register b ∷ arguments.Number n ∷ []) = insns.Ldsx z d b n
insn_from (mnemonics.Stx z) (arguments.Register b ∷ arguments.Number n ∷ arguments.Register s ∷ []) = insns.Stx z b n s
insn_from (mnemonics.St z) (arguments.Register b ∷ arguments.Number n ∷ arguments.Number m ∷ []) = insns.St z b n m
insn_from mnemonics.Wide (arguments.Register d ∷ arguments.Number n ∷ []) = insns.Wide d (cast_unsigned w64 n)
insn_from _ _ = insns.Exit

insn-from : (i : Insn) → Fits i → insn_from (mnemonic_of i) (operands_of i) ≡ i
insn-from (insns.Alu w op d s) f = ap (insns.Alu w op d) (operand-of s)
insn-from (insns.Jump w c l r off) f = ap (λ o. insns.Jump w c l o off) (operand-of r)
insn-from (insns.Wide d v) f = ap (insns.Wide d) (of_z-to_z w64 v f)
insn-from _ f = refl

pub one_insn : (i j : Insn) → Fits i → Fits j → mnemonic_of i ≡ mnemonic_of j → operands_of i ≡ operands_of j → i ≡ j
one_insn i j f g e o = sym (insn-from i f) ∙ ((λ k. insn_from (e k) (o k)) ∙ insn-from j g)

pub one_name : (word : List ℕ) (ops : List (Option Argument)) (i j : Insn) → Names word ops i → Names word ops j → i ≡ j
one_name word ops i j m n =
    one_insn i j m.fits n.fits (mnemonic_text-injective (mnemonic_of i) (mnemonic_of j) (m.mnemonic_is ∙ sym n.mnemonic_is))
    (known_operands (operands_of i) (operands_of j) (m.operands_are ∙ sym n.operands_are))

pub one_stands : (line : List ℕ) (i j : Insn) → StandsFor line i → StandsFor line j → i ≡ j
one_stands line i j s t = one_name (mnemonic_in line) (arguments_in line) i j s.named t.named

-- A line that stands for an instruction breaks nothing but the number of slots.

pub stands_unbroken : (before : List Insn) (line : List ℕ) (i : Insn) → length line ≤ 1024 → StandsFor line i → (rule : AsmRule) → rule_number rule < 6 → Breaks before line rule → ⊥
stands_unbroken before line i l s LineTooLong h b = omega arith
stands_unbroken before line i l s UnknownMnemonic h b = b.1 i s.named.mnemonic_is
stands_unbroken before line i l s MalformedOperands h b = b.1 i s.named.mnemonic_is (ap kinds s.named.operands_are)
stands_unbroken before line i l s UnknownRegister h b = false≢true (sym (no_unknown i) ∙ (ap (list_any is_unknown) s.named.operands_are ∙ b.1))
stands_unbroken before line i l s NumberOutOfRange h b = b.1 i s.named
stands_unbroken before line i l s BadLength h b = omega arith

pub stands_unbroken_few : (before : List Insn) (line : List ℕ) (i : Insn) → length line ≤ 1024 → StandsFor line i → slot_count before + slots_of i ≤ 4096 → (rule : AsmRule) → Breaks before line rule → ⊥
stands_unbroken_few before line i l s few BadLength b =
    let same : b.0 ≡ i = one_stands line b.0 i b.1 s in
    let count : slots_of b.0 ≡ slots_of i = ap slots_of same in
    let many = b.2 in
    omega arith
stands_unbroken_few before line i l s few LineTooLong b = stands_unbroken before line i l s LineTooLong (omega arith) b
stands_unbroken_few before line i l s few UnknownMnemonic b = stands_unbroken before line i l s UnknownMnemonic (omega arith) b
stands_unbroken_few before line i l s few MalformedOperands b = stands_unbroken before line i l s MalformedOperands (omega arith) b
stands_unbroken_few before line i l s few UnknownRegister b = stands_unbroken before line i l s UnknownRegister (omega arith) b
stands_unbroken_few before line i l s few NumberOutOfRange b = stands_unbroken before line i l s NumberOutOfRange (omega arith) b

-- a line that passes the slots breaks that, and no lower rule
pub passes_slots : (before : List Insn) (line : List ℕ) (i : Insn) → length line ≤ 1024 → StandsFor line i → 4096 < slot_count before + slots_of i → IsLowestBroken before line BadLength
passes_slots before line i l s many = record { broken = (i, s, many); lowest = λ lower h b. stands_unbroken before line i l s lower h b }

-- a line that is skipped breaks nothing
pub skipped_unbroken : (before : List Insn) (line : List ℕ) → length line ≤ 1024 → is_statement line ≡ false → (rule : AsmRule) → Breaks before line rule → ⊥
skipped_unbroken before line l s LineTooLong b = omega arith
skipped_unbroken before line l s UnknownMnemonic b = false≢true (sym s ∙ b.0)
skipped_unbroken before line l s MalformedOperands b = false≢true (sym s ∙ b.0)
skipped_unbroken before line l s UnknownRegister b = false≢true (sym s ∙ b.0)
skipped_unbroken before line l s NumberOutOfRange b = false≢true (sym s ∙ b.0)
skipped_unbroken before line l s BadLength b = false≢true (sym s ∙ b.1.statement)
