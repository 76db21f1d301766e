-- Which rule a word and operands break, where no instruction has them.
use Rattle.std.proofs.Common.{◌≡◌, ◌≢◌, ◌≤◌, ◌<◌, ℕ, suc, Bool, true, false, List, [], ◌∷◌, Option, None, Some, length, map, pos, refl, sym, ap, ◌∙◌, arith}
use Rattle.std.specs.Int.{w16, w32}
use Rattle.std.specs.Int.RustNames.{FitsSigned}
use Rattle.std.specs.List.{list_any}
use Rattle.std.proofs.lemmas.Bool.{false≢true}
use Rattle.std.proofs.lemmas.Option.{none-some, same_Some}
use Rattle.bpf_insn.specs.declared.reg.Reg.TheVariants.{R0}
use Rattle.bpf_insn.specs.declared.insn.Operand.{Operand}
use Rattle.bpf_insn.specs.declared.insn.Operand.TheVariants as operands
use Rattle.bpf_insn.specs.declared.insn.Insn.{Insn}
use Rattle.bpf_insn.specs.declared.insn.Insn.TheVariants as insns
use Rattle.bpf_insn.specs.Spelling.{Fits, OperandFits}
use Rattle.bpf_text.specs.declared.argument.Argument.{Argument}
use Rattle.bpf_text.specs.declared.argument.Argument.TheVariants as arguments
use Rattle.bpf_text.specs.declared.mnemonic.Mnemonic.{Mnemonic}
use Rattle.bpf_text.specs.declared.mnemonic.Mnemonic.TheVariants as mnemonics
use Rattle.bpf_text.specs.declared.rule.AsmRule.{AsmRule}
use Rattle.bpf_text.specs.declared.rule.AsmRule.TheVariants.{LineTooLong, UnknownMnemonic, MalformedOperands, UnknownRegister, NumberOutOfRange, BadLength}
use Rattle.bpf_text.specs.Rule.{rule_number}
use Rattle.bpf_text.specs.Mnemonics.{mnemonic_of, mnemonic_text, operands_of}
use Rattle.bpf_text.specs.Text.{is_register, kinds, is_unknown, Misnames}
use Rattle.bpf_text.specs.inner.Reading.{cleared, IsLowestMisnamed}
use Rattle.bpf_text.proofs.Mnemonics.{mnemonic_text-injective}

-- an instruction of each form
insn_of_mnemonic : Mnemonic → Insn
insn_of_mnemonic (mnemonics.Alu w op) = insns.Alu w op R0 (operands.Register R0)
insn_of_mnemonic (mnemonics.Neg w) = insns.Neg w R0
insn_of_mnemonic (mnemonics.Movsx e) = insns.Movsx e R0 R0
insn_of_mnemonic (mnemonics.End o z) = insns.End o z R0
insn_of_mnemonic mnemonics.Ja = insns.Ja (pos 0)
insn_of_mnemonic mnemonics.Ja32 = insns.Ja32 (pos 0)
insn_of_mnemonic (mnemonics.Jump w c) = insns.Jump w c R0 (operands.Register R0) (pos 0)
insn_of_mnemonic mnemonics.Exit = insns.Exit
insn_of_mnemonic (mnemonics.Ldx z) = insns.Ldx z R0 R0 (pos 0)
insn_of_mnemonic (mnemonics.Ldsx z) = insns.Ldsx z R0 R0 (pos 0)
insn_of_mnemonic (mnemonics.Stx z) = insns.Stx z R0 (pos 0) R0
insn_of_mnemonic (mnemonics.St z) = insns.St z R0 (pos 0) (pos 0)
insn_of_mnemonic mnemonics.Wide = insns.Wide R0 0

mnemonic-insn_of_mnemonic : (f : Mnemonic) → mnemonic_of (insn_of_mnemonic f) ≡ f
unfolding insn_of_mnemonic
mnemonic-insn_of_mnemonic mnemonics.Exit = refl
mnemonic-insn_of_mnemonic _ = refl

-- an instruction with R0 in the place of each register, and 0 in that of each number
cleared_operand : Operand → Operand
cleared_operand (operands.Imm n) = operands.Imm (pos 0)
cleared_operand (operands.Register r) = operands.Register R0

cleared_insn : Insn → Insn
cleared_insn (insns.Alu w op d s) = insns.Alu w op R0 (cleared_operand s)
cleared_insn (insns.Neg w d) = insns.Neg w R0
cleared_insn (insns.Movsx e d s) = insns.Movsx e R0 R0
cleared_insn (insns.End o z d) = insns.End o z R0
cleared_insn (insns.Ja off) = insns.Ja (pos 0)
cleared_insn (insns.Ja32 off) = insns.Ja32 (pos 0)
cleared_insn (insns.Jump w c l r off) = insns.Jump w c R0 (cleared_operand r) (pos 0)
cleared_insn insns.Exit = insns.Exit
cleared_insn (insns.Ldx z d b off) = insns.Ldx z R0 R0 (pos 0)
cleared_insn (insns.Ldsx z d b off) = insns.Ldsx z R0 R0 (pos 0)
cleared_insn (insns.Stx z b off s) = insns.Stx z R0 (pos 0) R0
cleared_insn (insns.St z b off n) = insns.St z R0 (pos 0) (pos 0)
cleared_insn (insns.Wide d v) = insns.Wide R0 0

cleared-mnemonic : (i : Insn) → mnemonic_of (cleared_insn i) ≡ mnemonic_of i
unfolding cleared_insn
cleared-mnemonic insns.Exit = refl
cleared-mnemonic _ = refl

cleared-operands : (i : Insn) → operands_of (cleared_insn i) ≡ map cleared (operands_of i)
unfolding cleared_insn cleared_operand
cleared-operands (insns.Alu w op d (operands.Imm n)) = refl
cleared-operands (insns.Alu w op d (operands.Register r)) = refl
cleared-operands (insns.Jump w c l (operands.Imm n) off) = refl
cleared-operands (insns.Jump w c l (operands.Register r) off) = refl
cleared-operands _ = refl

zero16 : FitsSigned w16 (pos 0)
zero16 = record { sfits = omega arith }

zero32 : FitsSigned w32 (pos 0)
zero32 = record { sfits = omega arith }

cleared_operand-fits : (s : Operand) → OperandFits (cleared_operand s)
unfolding cleared_operand
cleared_operand-fits (operands.Imm n) = zero32
cleared_operand-fits (operands.Register r) = tt

cleared-fits : (i : Insn) → Fits (cleared_insn i)
unfolding cleared_insn
cleared-fits (insns.Alu w op d s) = cleared_operand-fits s
cleared-fits (insns.Ja off) = zero16
cleared-fits (insns.Ja32 off) = zero32
cleared-fits (insns.Jump w c l r off) = (cleared_operand-fits r, zero16)
cleared-fits (insns.Ldx z d b off) = zero16
cleared-fits (insns.Ldsx z d b off) = zero16
cleared-fits (insns.Stx z b off s) = zero16
cleared-fits (insns.St z b off n) = (zero16, zero32)
cleared-fits (insns.Wide d v) = omega arith
cleared-fits (insns.Neg w d) = tt
cleared-fits (insns.Movsx e d s) = tt
cleared-fits (insns.End o z d) = tt
cleared-fits insns.Exit = tt

-- operands of the same kinds are the same when cleared
abbrev of_kind : Bool → Argument
of_kind true = arguments.Register R0
of_kind false = arguments.Number (pos 0)

cleared-of_kind : (a : Argument) → cleared a ≡ of_kind (is_register a)
cleared-of_kind (arguments.Register r) = refl
cleared-of_kind _ = refl

kinds_cleared : (xs ys : List Argument) → kinds (map (λ a. Some a) xs) ≡ kinds (map (λ a. Some a) ys) → map cleared xs ≡ map cleared ys
kinds_cleared [] [] e = refl
kinds_cleared [] (y ∷ ys) e = absurd (cc)
kinds_cleared (x ∷ xs) [] e = absurd (cc)
kinds_cleared (x ∷ xs) (y ∷ ys) e =
    let kind : is_register x ≡ is_register y = cc in
    let tails : kinds (map (λ a. Some a) xs) ≡ kinds (map (λ a. Some a) ys) = cc in
    let head : cleared x ≡ cleared y = cleared-of_kind x ∙ (ap of_kind kind ∙ sym (cleared-of_kind y)) in
    (λ j. head j ∷ kinds_cleared xs ys tails j)

-- clearing leaves the kinds
kind-cleared : (a : Argument) → is_register (cleared a) ≡ is_register a
kind-cleared (arguments.Register r) = refl
kind-cleared _ = refl

kinds-cleared : (xs : List Argument) → kinds (map (λ a. Some a) (map cleared xs)) ≡ kinds (map (λ a. Some a) xs)
kinds-cleared [] = refl
kinds-cleared (x ∷ xs) = (λ j. Some (kind-cleared x j) ∷ kinds-cleared xs j)

-- operands with the kinds of known ones are known
all_known : (xs : List Argument) (ys : List (Option Argument)) → kinds (map (λ a. Some a) xs) ≡ kinds ys → (all : List Argument) × (ys ≡ map (λ a. Some a) all) × (length all ≡ length xs)
all_known [] [] e = ([], refl, refl)
all_known [] (y ∷ ys) e = absurd (cc)
all_known (x ∷ xs) [] e = absurd (cc)
all_known (x ∷ xs) (None ∷ ys) e = absurd (let f : Some (is_register x) ≡ None = cc in none-some (is_register x) (sym f))
all_known (x ∷ xs) (Some y ∷ ys) e =
    let tails : kinds (map (λ a. Some a) xs) ≡ kinds ys = cc in
    let r = all_known xs ys tails in
    (y ∷ r.0, ap (λ zs. Some y ∷ zs) r.1, ap suc r.2)

pub few_operands : (i : Insn) → length (operands_of i) ≤ 3
few_operands insns.Exit = omega arith
few_operands _ = omega arith

pub no_unknown : (i : Insn) → list_any is_unknown (map (λ a. Some a) (operands_of i)) ≡ false
no_unknown (insns.Alu w op d (operands.Imm n)) = refl
no_unknown (insns.Alu w op d (operands.Register r)) = refl
no_unknown (insns.Jump w c l (operands.Imm n) off) = refl
no_unknown (insns.Jump w c l (operands.Register r) off) = refl
no_unknown _ = refl

known_some : (xs ys : List Argument) → map (λ a. Some a) xs ≡ map (λ a. Some a) ys → xs ≡ ys
known_some [] [] e = refl
known_some [] (y ∷ ys) e = absurd (cc)
known_some (x ∷ xs) [] e = absurd (cc)
known_some (x ∷ xs) (y ∷ ys) e =
    let tails : map (λ a. Some a) xs ≡ map (λ a. Some a) ys = cc in
    let rest = known_some xs ys tails in
    let heads : Some x ≡ Some y = cc in
    let head = same_Some x y heads in
    (λ j. head j ∷ rest j)

-- The lowest rule.

pub no_mnemonic : (word : List ℕ) (ops : List (Option Argument)) → ((f : Mnemonic) → mnemonic_text f ≢ word) → IsLowestMisnamed word ops UnknownMnemonic
no_mnemonic word ops none = record { broken = λ i. none (mnemonic_of i); lowest = lowest }
  where
    lowest : (lower : AsmRule) → rule_number lower < 2 → Misnames word ops lower → ⊥
    lowest LineTooLong h m = m
    lowest UnknownMnemonic h m = absurd (omega arith)
    lowest MalformedOperands h m = absurd (omega arith)
    lowest UnknownRegister h m = absurd (omega arith)
    lowest NumberOutOfRange h m = absurd (omega arith)
    lowest BadLength h m = m

below_malformed : (f : Mnemonic) (ops : List (Option Argument)) (lower : AsmRule) → rule_number lower < 3 → Misnames (mnemonic_text f) ops lower → ⊥
below_malformed f ops LineTooLong h m = m
below_malformed f ops UnknownMnemonic h m = m (insn_of_mnemonic f) (ap mnemonic_text (mnemonic-insn_of_mnemonic f))
below_malformed f ops MalformedOperands h m = absurd (omega arith)
below_malformed f ops UnknownRegister h m = absurd (omega arith)
below_malformed f ops NumberOutOfRange h m = absurd (omega arith)
below_malformed f ops BadLength h m = m

pub not_operands : (f : Mnemonic) (ops : List (Option Argument)) → ((all : List Argument) → length all ≤ 3 → ops ≢ map (λ a. Some a) all) → IsLowestMisnamed (mnemonic_text f) ops MalformedOperands
not_operands f ops none = record {
  broken = λ i m k. let r = all_known (operands_of i) ops k in let few = few_operands i in none r.0 (omega arith) r.1;
  lowest = below_malformed f ops;
}

pub other_kinds : (f : Mnemonic) (xs : List Argument) → ((i : Insn) → Fits i → mnemonic_of i ≡ f → operands_of i ≢ map cleared xs) → IsLowestMisnamed (mnemonic_text f) (map (λ a. Some a) xs) MalformedOperands
other_kinds f xs none = record {
  broken = λ i m k. none (cleared_insn i) (cleared-fits i) (cleared-mnemonic i ∙ mnemonic_text-injective (mnemonic_of i) f m) (cleared-operands i ∙ kinds_cleared (operands_of i) xs k);
  lowest = below_malformed f (map (λ a. Some a) xs);
}

below_unknown : (f : Mnemonic) (xs : List Argument) (i : Insn) → mnemonic_of i ≡ f → operands_of i ≡ map cleared xs
    → (lower : AsmRule) → rule_number lower < 4 → Misnames (mnemonic_text f) (map (λ a. Some a) xs) lower → ⊥
below_unknown f xs i e o LineTooLong h m = m
below_unknown f xs i e o UnknownMnemonic h m = m i (ap mnemonic_text e)
below_unknown f xs i e o MalformedOperands h m = m i (ap mnemonic_text e) (ap (λ ys. kinds (map (λ a. Some a) ys)) o ∙ kinds-cleared xs)
below_unknown f xs i e o UnknownRegister h m = absurd (omega arith)
below_unknown f xs i e o NumberOutOfRange h m = absurd (omega arith)
below_unknown f xs i e o BadLength h m = m

pub unknown_register : (f : Mnemonic) (xs : List Argument) (i : Insn) → mnemonic_of i ≡ f → operands_of i ≡ map cleared xs → list_any is_unknown (map (λ a. Some a) xs) ≡ true
    → IsLowestMisnamed (mnemonic_text f) (map (λ a. Some a) xs) UnknownRegister
unknown_register f xs i e o u = record { broken = u; lowest = below_unknown f xs i e o }

pub out_of_range : (f : Mnemonic) (xs : List Argument) (i : Insn) → mnemonic_of i ≡ f → operands_of i ≡ map cleared xs → list_any is_unknown (map (λ a. Some a) xs) ≡ false
    → ((j : Insn) → Fits j → mnemonic_of j ≡ f → operands_of j ≢ xs) → IsLowestMisnamed (mnemonic_text f) (map (λ a. Some a) xs) NumberOutOfRange
out_of_range f xs i e o u none = record {
  broken = λ j n. none j n.fits (mnemonic_text-injective (mnemonic_of j) f n.mnemonic_is) (known_some (operands_of j) xs n.operands_are);
  lowest = lowest;
}
  where
    lowest : (lower : AsmRule) → rule_number lower < 5 → Misnames (mnemonic_text f) (map (λ a. Some a) xs) lower → ⊥
    lowest LineTooLong h m = m
    lowest UnknownMnemonic h m = below_unknown f xs i e o UnknownMnemonic (omega arith) m
    lowest MalformedOperands h m = below_unknown f xs i e o MalformedOperands (omega arith) m
    lowest UnknownRegister h m = false≢true (sym u ∙ m)
    lowest NumberOutOfRange h m = absurd (omega arith)
    lowest BadLength h m = m

-- one instruction has a form and operands
pub known_operands : (xs ys : List Argument) → map (λ a. Some a) xs ≡ map (λ a. Some a) ys → xs ≡ ys
known_operands xs ys e = known_some xs ys e
