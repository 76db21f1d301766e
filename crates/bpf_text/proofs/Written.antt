-- What is written of an operand says that operand.
use Rattle.std.proofs.Common.{◌≡◌, ◌≤◌, ◌<◌, ◌+◌, ◌^◌, ◌%◌, ℕ, ℤ, pos}
use Rattle.std.proofs.Common.{negsuc, suc, true, false, cond, eqb, List, [], ◌∷◌, ◌++◌, None, Some, length, map, refl}
use Rattle.std.proofs.Common.{sym, ap, ◌∙◌, subst, arith}
use lib.Signed.{mag}
use Rattle.std.specs.Fmt.{decimal}
use Rattle.std.specs.Int.{cast_signed, w16, w32, w64}
use Rattle.std.specs.Int.RustNames.{FitsSigned}
use Rattle.std.specs.List.{list_all, slice_split, flat_map, AllByRecursion}
use Rattle.std.specs.Option.{option_map}
use Rattle.std.proofs.lemmas.Bool.{lt-ltb, le-leb}
use Rattle.std.proofs.lemmas.Fmt.{decimal_by_steps, decimal_nonempty}
use Rattle.std.proofs.lemmas.List.{append-nil}
use borrow.Author.Gap.{read_sfits}
use Rattle.bpf_insn.specs.declared.reg.Reg.{Reg}
use Rattle.bpf_insn.specs.declared.reg.Reg.TheVariants as regs
use Rattle.bpf_insn.specs.declared.insn.Operand.{Operand}
use Rattle.bpf_insn.specs.declared.insn.Operand.TheVariants as operands
use Rattle.bpf_insn.specs.declared.insn.Insn.{Insn}
use Rattle.bpf_insn.specs.declared.insn.Insn.TheVariants as insns
use Rattle.bpf_insn.specs.Spelling.{Fits, OperandFits}
use Rattle.bpf_text.specs.declared.argument.Argument.{Argument}
use Rattle.bpf_text.specs.declared.argument.Argument.TheVariants.{Register, UnknownRegister, Number, HugeNumber}
use Rattle.bpf_text.specs.Names.{register_name}
use Rattle.bpf_text.specs.Mnemonics.{operands_of, argument_of_operand}
use Rattle.text_words.specs.Numbers.{decimal_in}
use Rattle.text_words.proofs.Written.{decimal_written}
use Rattle.bpf_text.specs.Lines.{positive, negative, argument_of, argument_in, known_or, is_comma, is_blank_text, operand_texts_of}
use Rattle.bpf_text.specs.Canonical.{operand_text, further_text}
use Rattle.bpf_text.specs.Tables.{named, all_registers}
use Rattle.bpf_text.proofs.Words.{is_word_byte, AreWordBytes, word_bytes, unequal, begins_no_blank, operand_alone}
use Rattle.bpf_text.proofs.Words.{operand_behind_space, last_part, part_before_comma, spaced_last_part, spaced_part_before_comma}

-- Decimal numbers.

abbrev IsDigit : ℕ → Type 0
IsDigit c = (48 ≤ c) × (c ≤ 57)

abbrev AreDigits : List ℕ → Type 0
AreDigits ds = AllByRecursion IsDigit ds

digits-push : (ds : List ℕ) (c : ℕ) → AreDigits ds → IsDigit c → AreDigits (ds ++ c ∷ [])
digits-push [] c h d = (d, tt)
digits-push (x ∷ xs) c h d = (h.0, digits-push xs c h.1 d)

decimal-digits : (n : ℕ) → n < 2 ^ 64 → AreDigits (decimal n)
decimal-digits n h = decimal_by_steps (λ _ ds. AreDigits ds) (λ n l. ((omega arith, omega arith), tt)) (λ n ds l p. digits-push ds (48 + n % 10) p (omega arith, omega arith)) n h

digits_word : (ds : List ℕ) → AreDigits ds → AreWordBytes ds
digits_word [] h = tt
digits_word (d ∷ ds) h = let low = h.0 in let least = low.0 in let most = low.1 in ((omega arith, λ e. omega arith), digits_word ds h.1)

-- Words of operands.

-- an operand whose number 64 bits hold
abbrev pub IsWritten : Argument → Type 0
IsWritten (Register r) = Unit {0}
IsWritten (Number n) = mag n < 2 ^ 63
IsWritten UnknownRegister = ⊥
IsWritten HugeNumber = ⊥

-- a text that is a word
pub record IsWord (text : List ℕ) : Type 0 where
  pub first : ℕ
  pub more : List ℕ
  pub is : text ≡ first ∷ more
  pub bytes : AreWordBytes (first ∷ more)

pub word_of : (text : List ℕ) → 0 < length text → AreWordBytes text → IsWord text
word_of [] l h = absurd (omega arith)
word_of (b ∷ bs) l h = record { first = b; more = bs; is = refl; bytes = h }

register_word : (r : Reg) → list_all is_word_byte (register_name r) ≡ true
register_word regs.R0 = refl
register_word _ = refl

register_some : (r : Reg) → 0 < length (register_name r)
register_some regs.R0 = omega arith
register_some _ = omega arith

pub operand_word : (a : Argument) → IsWritten a → IsWord (operand_text a)
operand_word (Register r) h = word_of (register_name r) (register_some r) (word_bytes (register_name r) (register_word r))
operand_word (Number (pos n)) h = word_of (decimal n) (decimal_nonempty n (omega arith)) (digits_word (decimal n) (decimal-digits n (omega arith)))
operand_word (Number (negsuc n)) h = word_of (45 ∷ decimal (suc n)) (omega arith) ((omega arith, λ e. omega arith), digits_word (decimal (suc n)) (decimal-digits (suc n) (omega arith)))
operand_word UnknownRegister h = absurd h
operand_word HugeNumber h = absurd h

-- no register is named by a word that begins with another byte than `r`
not_register : (b : ℕ) (bs : List ℕ) → (114 ≡ b → ⊥) → named register_name all_registers (b ∷ bs) ≡ None
not_register b bs h = let other : eqb 114 b ≡ false = unequal 114 b h in rw other refl

register_said : (r : Reg) → argument_of (register_name r) ≡ Some (Register r)
register_said regs.R0 = refl
register_said _ = refl

digits_said : (b : ℕ) (bs : List ℕ) → IsDigit b → argument_of (b ∷ bs) ≡ option_map positive (decimal_in (b ∷ bs))
digits_said b bs d =
    let least = d.0 in
    let most = d.1 in
    let letter : eqb b 114 ≡ false = unequal b 114 (λ e. omega arith) in
    let minus : eqb b 45 ≡ false = unequal b 45 (λ e. omega arith) in
    let plus : eqb b 43 ≡ false = unequal b 43 (λ e. omega arith) in
    ap (λ o. known_or (b ∷ bs) (option_map Register o)) (not_register b bs (λ e. omega arith)) ∙ (rw (letter, minus, plus) refl)

positive_said : (ds : List ℕ) (n : ℕ) → 0 < length ds → AreDigits ds → decimal_in ds ≡ Some n → n < 2 ^ 63
    → argument_of ds ≡ Some (Number (pos n))
positive_said [] n l d e h = absurd (omega arith)
positive_said (b ∷ bs) n l d e h = digits_said b bs d.0 ∙ (ap (option_map positive) e ∙ (rw (lt-ltb n (2 ^ 63) h) refl))

negative_said : (n : ℕ) → n < 2 ^ 63 → argument_of (45 ∷ decimal (suc n)) ≡ Some (Number (negsuc n))
negative_said n h =
    let small : suc n ≤ 2 ^ 63 = omega arith in
    ap (λ o. known_or (45 ∷ decimal (suc n)) (option_map Register o)) (not_register 45 (decimal (suc n)) (λ e. omega arith))
    ∙ (ap (option_map negative) (decimal_written (suc n) (omega arith)) ∙ (rw (le-leb (suc n) (2 ^ 63) small) refl))

pub said : (a : Argument) → IsWritten a → argument_of (operand_text a) ≡ Some a
said (Register r) h = register_said r
said (Number (pos n)) h = positive_said (decimal n) n (decimal_nonempty n (omega arith)) (decimal-digits n (omega arith)) (decimal_written n (omega arith)) h
said (Number (negsuc n)) h = negative_said n h
said UnknownRegister h = absurd h
said HugeNumber h = absurd h

pub said_alone : (a : Argument) → IsWritten a → argument_in (operand_text a) ≡ Some a
said_alone a h =
    let w = operand_word a h in
    ap argument_in w.is ∙ (operand_alone w.first w.more w.bytes ∙ (ap argument_of (sym w.is) ∙ said a h))

pub said_behind_space : (a : Argument) → IsWritten a → argument_in (32 ∷ operand_text a) ≡ Some a
said_behind_space a h =
    let w = operand_word a h in
    ap (λ t. argument_in (32 ∷ t)) w.is ∙ (operand_behind_space w.first w.more w.bytes ∙ (ap argument_of (sym w.is) ∙ said a h))

-- All operands of a line.

word_is_bytes : (text : List ℕ) → IsWord text → AreWordBytes text
word_is_bytes text w = subst AreWordBytes (sym w.is) w.bytes

further_parts : (a : Argument) (more : List Argument) → IsWritten a → AllByRecursion IsWritten more
    → map argument_in (slice_split is_comma (32 ∷ (operand_text a ++ flat_map further_text more))) ≡ map (λ x. Some x) (a ∷ more)
further_parts a [] h hs =
    ap (λ t. map argument_in (slice_split is_comma (32 ∷ t))) (append-nil (operand_text a))
    ∙ (ap (map argument_in) (spaced_last_part (operand_text a) (word_is_bytes (operand_text a) (operand_word a h)))
    ∙ (λ i. said_behind_space a h i ∷ []))
further_parts a (b ∷ more) h hs =
    ap (map argument_in) (spaced_part_before_comma (operand_text a) (32 ∷ (operand_text b ++ flat_map further_text more)) (word_is_bytes (operand_text a) (operand_word a h)))
    ∙ (λ i. said_behind_space a h i ∷ further_parts b more hs.0 hs.1 i)

all_parts : (a : Argument) (more : List Argument) → IsWritten a → AllByRecursion IsWritten more
    → map argument_in (slice_split is_comma (operand_text a ++ flat_map further_text more)) ≡ map (λ x. Some x) (a ∷ more)
all_parts a [] h hs =
    ap (λ t. map argument_in (slice_split is_comma t)) (append-nil (operand_text a))
    ∙ (ap (map argument_in) (last_part (operand_text a) (word_is_bytes (operand_text a) (operand_word a h)))
    ∙ (λ i. said_alone a h i ∷ []))
all_parts a (b ∷ more) h hs =
    ap (map argument_in) (part_before_comma (operand_text a) (32 ∷ (operand_text b ++ flat_map further_text more)) (word_is_bytes (operand_text a) (operand_word a h)))
    ∙ (λ i. said_alone a h i ∷ further_parts b more hs.0 hs.1 i)

no_blank_behind : (a : Argument) (x : List ℕ) → IsWritten a → is_blank_text (operand_text a ++ x) ≡ false
no_blank_behind a x h =
    let w = operand_word a h in
    let bytes = w.bytes in
    ap (λ t. is_blank_text (t ++ x)) w.is ∙ begins_no_blank w.first (w.more ++ x) bytes.0

pub operands_said : (a : Argument) (more : List Argument) → IsWritten a → AllByRecursion IsWritten more
    → map argument_in (operand_texts_of (operand_text a ++ flat_map further_text more)) ≡ map (λ x. Some x) (a ∷ more)
operands_said a more h hs =
    ap (λ t. map argument_in (cond t [] (slice_split is_comma (operand_text a ++ flat_map further_text more)))) (no_blank_behind a (flat_map further_text more) h)
    ∙ all_parts a more h hs

-- the operands of an instruction are written
operand-written : (s : Operand) → OperandFits s → IsWritten (argument_of_operand s)
operand-written (operands.Imm n) f = let small = f.sfits in omega arith
operand-written (operands.Register r) f = tt

offset-written : (n : ℤ) → FitsSigned w16 n → IsWritten (Number n)
offset-written n f = let small = f.sfits in omega arith

imm-written : (n : ℤ) → FitsSigned w32 n → IsWritten (Number n)
imm-written n f = let small = f.sfits in omega arith

word-written : (v : ℕ) → IsWritten (Number (cast_signed w64 v))
word-written v = let f = read_sfits w64 v in f.sfits

pub all-written : (i : Insn) → Fits i → AllByRecursion IsWritten (operands_of i)
all-written (insns.Alu w op d s) f = (tt, (operand-written s f, tt))
all-written (insns.Neg w d) f = (tt, tt)
all-written (insns.Movsx e d s) f = (tt, (tt, tt))
all-written (insns.End o z d) f = (tt, tt)
all-written (insns.Ja off) f = (offset-written off f, tt)
all-written (insns.Ja32 off) f = (imm-written off f, tt)
all-written (insns.Jump w c l r off) f = (tt, (operand-written r f.0, (offset-written off f.1, tt)))
all-written insns.Exit f = tt
all-written (insns.Ldx z d b off) f = (tt, (tt, (offset-written off f, tt)))
all-written (insns.Ldsx z d b off) f = (tt, (tt, (offset-written off f, tt)))
all-written (insns.Stx z b off s) f = (tt, (offset-written off f, (tt, tt)))
all-written (insns.St z b off n) f = (tt, (offset-written off f.0, (imm-written n f.1, tt)))
all-written (insns.Wide d v) f = (tt, (word-written v, tt))
