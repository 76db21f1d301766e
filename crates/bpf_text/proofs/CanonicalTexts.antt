-- The canonical text of a program stands for it.
use Rattle.std.proofs.Common.{◌≡◌, ◌≤◌, ◌<◌, ◌-◌, ◌*◌, ℕ, zero, suc, true, false, not, eqb, List, []}
use Rattle.std.proofs.Common.{◌∷◌, ◌++◌, Some, length, get_or, map, filter, refl, sym, ap, ◌∙◌, subst, arith}
use Rattle.std.proofs.Common.{append_assoc, length-append}
use Rattle.std.specs.List.{before_first, after_first, list_all, slice_split, flat_map, AllByRecursion}
use Rattle.std.specs.Str.Lines.{lines, strip_carriage_return}
use Rattle.text_words.proofs.FirstLine.{is_feed, lines_of_cut}
use Rattle.std.proofs.lemmas.Fmt.{length_signed_le}
use Rattle.std.proofs.lemmas.List.{append-nil}
use Rattle.bpf_insn.specs.declared.insn.Width.TheVariants as widths
use Rattle.bpf_insn.specs.declared.insn.AluOp.TheVariants as ops
use Rattle.bpf_insn.specs.declared.insn.Cond.TheVariants as conds
use Rattle.bpf_insn.specs.declared.insn.Extension.TheVariants as extensions
use Rattle.bpf_insn.specs.declared.insn.ByteOrder.TheVariants as orders
use Rattle.bpf_insn.specs.declared.insn.EndSize.TheVariants as end_sizes
use Rattle.bpf_insn.specs.declared.insn.Size.TheVariants as sizes
use Rattle.bpf_insn.specs.declared.insn.SignedSize.TheVariants as signed_sizes
use Rattle.bpf_insn.specs.declared.reg.Reg.{Reg}
use Rattle.bpf_insn.specs.declared.reg.Reg.TheVariants as regs
use Rattle.bpf_insn.specs.declared.insn.Insn.{Insn}
use Rattle.bpf_insn.specs.Spelling.{Fits}
use Rattle.bpf_insn.specs.Program.{IsProgram}
use Rattle.bpf_text.specs.declared.argument.Argument.{Argument}
use Rattle.bpf_text.specs.declared.argument.Argument.TheVariants.{Register, UnknownRegister, Number, HugeNumber}
use Rattle.bpf_text.specs.declared.mnemonic.Mnemonic.{Mnemonic}
use Rattle.bpf_text.specs.declared.mnemonic.Mnemonic.TheVariants.{Alu, Neg, Movsx, End, Ja, Ja32, Jump, Exit, Ldx, Ldsx, Stx, St, Wide}
use Rattle.bpf_text.specs.Names.{register_name}
use Rattle.bpf_text.specs.Mnemonics.{mnemonic_of, mnemonic_text, operands_of}
use Rattle.text_words.specs.Words.{is_blank}
use Rattle.bpf_text.specs.Lines.{is_comment_mark, is_blank_text, code_part, first_word, behind_word, is_statement, operand_texts_of}
use Rattle.bpf_text.specs.Lines.{argument_in}
use Rattle.bpf_text.specs.Text.{StandsFor, StandFor, IsShort, AreFaultless, IsTextOf}
use Rattle.bpf_text.specs.Canonical.{operand_text, further_text, operand_list, statement_text, canonical_line, canonical_text}
use Rattle.bpf_text.specs.Canonical.{CanonicalTextsStand}
use Rattle.bpf_text.proofs.OneReading.{one_reading}
use Rattle.bpf_text.proofs.Statements.{few_operands}
use Rattle.bpf_text.proofs.Words.{is_word_byte, AreWordBytes, word_bytes, unequal, before-cons, word_alone, nothing_behind}
use Rattle.bpf_text.proofs.Words.{word_first, word_behind, begins_unindented, begins_no_blank}
use Rattle.bpf_text.proofs.Written.{IsWritten, IsWord, word_of, operand_word, operands_said, all-written}

-- Mnemonics are words of 2 to 9 bytes: the whole table is computed.

mnemonic_facts : (f : Mnemonic)
    → (list_all is_word_byte (mnemonic_text f) ≡ true) × (0 < length (mnemonic_text f)) × (length (mnemonic_text f) ≤ 9)
mnemonic_facts (Alu widths.W32 ops.Add) = (refl, omega arith, omega arith)
mnemonic_facts (Alu widths.W32 _) = (refl, omega arith, omega arith)
mnemonic_facts (Alu _ ops.Add) = (refl, omega arith, omega arith)
mnemonic_facts (Alu _ _) = (refl, omega arith, omega arith)
mnemonic_facts (Neg widths.W32) = (refl, omega arith, omega arith)
mnemonic_facts (Neg _) = (refl, omega arith, omega arith)
mnemonic_facts (Movsx extensions.From8To32) = (refl, omega arith, omega arith)
mnemonic_facts (Movsx _) = (refl, omega arith, omega arith)
mnemonic_facts (End orders.Little end_sizes.B16) = (refl, omega arith, omega arith)
mnemonic_facts (End orders.Little _) = (refl, omega arith, omega arith)
mnemonic_facts (End orders.Big end_sizes.B16) = (refl, omega arith, omega arith)
mnemonic_facts (End orders.Big _) = (refl, omega arith, omega arith)
mnemonic_facts (End _ end_sizes.B16) = (refl, omega arith, omega arith)
mnemonic_facts (End _ _) = (refl, omega arith, omega arith)
mnemonic_facts (Jump widths.W32 conds.Eq) = (refl, omega arith, omega arith)
mnemonic_facts (Jump widths.W32 _) = (refl, omega arith, omega arith)
mnemonic_facts (Jump _ conds.Eq) = (refl, omega arith, omega arith)
mnemonic_facts (Jump _ _) = (refl, omega arith, omega arith)
mnemonic_facts (Ldx sizes.B8) = (refl, omega arith, omega arith)
mnemonic_facts (Ldx _) = (refl, omega arith, omega arith)
mnemonic_facts (Ldsx signed_sizes.B8) = (refl, omega arith, omega arith)
mnemonic_facts (Ldsx _) = (refl, omega arith, omega arith)
mnemonic_facts (Stx sizes.B8) = (refl, omega arith, omega arith)
mnemonic_facts (Stx _) = (refl, omega arith, omega arith)
mnemonic_facts (St sizes.B8) = (refl, omega arith, omega arith)
mnemonic_facts (St _) = (refl, omega arith, omega arith)
mnemonic_facts Ja = (refl, omega arith, omega arith)
mnemonic_facts Ja32 = (refl, omega arith, omega arith)
mnemonic_facts Exit = (refl, omega arith, omega arith)
mnemonic_facts Wide = (refl, omega arith, omega arith)

mnemonic_word : (f : Mnemonic) → IsWord (mnemonic_text f)
mnemonic_word f = let facts = mnemonic_facts f in word_of (mnemonic_text f) facts.1 (word_bytes (mnemonic_text f) facts.0)

-- Bytes of a line: no line end and no comment mark.

abbrev IsLineByte : ℕ → Type 0
IsLineByte b = (32 ≤ b) × (b ≡ 35 → ⊥) × (b ≡ 59 → ⊥)

abbrev AreLineBytes : List ℕ → Type 0
AreLineBytes [] = Unit {0}
AreLineBytes (b ∷ bs) = IsLineByte b × AreLineBytes bs

word_line : (w : List ℕ) → AreWordBytes w → AreLineBytes w
word_line [] h = tt
word_line (b ∷ bs) h = let here = h.0 in let low = here.0 in ((omega arith, λ e. omega arith, here.1), word_line bs h.1)

line-append : (a b : List ℕ) → AreLineBytes a → AreLineBytes b → AreLineBytes (a ++ b)
line-append [] b p q = q
line-append (x ∷ xs) b p q = (p.0, line-append xs b p.1 q)

space_byte : IsLineByte 32
space_byte = (omega arith, λ e. omega arith, λ e. omega arith)

comma_byte : IsLineByte 44
comma_byte = (omega arith, λ e. omega arith, λ e. omega arith)

operand_line : (a : Argument) → IsWritten a → AreLineBytes (operand_text a)
operand_line a h = let w = operand_word a h in subst AreLineBytes (sym w.is) (word_line (w.first ∷ w.more) w.bytes)

further_line : (more : List Argument) → AllByRecursion IsWritten more → AreLineBytes (flat_map further_text more)
further_line [] h = tt
further_line (a ∷ more) h = (comma_byte, (space_byte, line-append (operand_text a) (flat_map further_text more) (operand_line a h.0) (further_line more h.1)))

list_line : (all : List Argument) → AllByRecursion IsWritten all → AreLineBytes (operand_list all)
list_line [] h = tt
list_line (a ∷ more) h = (space_byte, line-append (operand_text a) (flat_map further_text more) (operand_line a h.0) (further_line more h.1))

statement_line : (i : Insn) → Fits i → AreLineBytes (statement_text i)
statement_line i f =
    let w = mnemonic_word (mnemonic_of i) in
    line-append (mnemonic_text (mnemonic_of i)) (operand_list (operands_of i)) (subst AreLineBytes (sym w.is) (word_line (w.first ∷ w.more) w.bytes)) (list_line (operands_of i) (all-written i f))

-- no comment
no_comment : (w : List ℕ) → AreLineBytes w → code_part w ≡ w
no_comment [] h = refl
no_comment (b ∷ bs) h =
    let here = h.0 in
    let semicolon : eqb b 59 ≡ false = unequal b 59 here.2 in
    let hash : eqb b 35 ≡ false = unequal b 35 here.1 in
    before-cons is_comment_mark b bs (rw (semicolon, hash) refl) ∙ ap (λ x. b ∷ x) (no_comment bs h.1)

-- no carriage return at the end
byte_at : (w : List ℕ) (k : ℕ) → AreLineBytes w → k < length w → 32 ≤ get_or w k 0
byte_at [] k h l = absurd (omega arith)
byte_at (b ∷ bs) zero h l = let here = h.0 in here.0
byte_at (b ∷ bs) (suc k) h l = byte_at bs k h.1 (omega arith)

no_return : (w : List ℕ) → 0 < length w → AreLineBytes w → strip_carriage_return w ≡ w
no_return w l h =
    let low = byte_at w (length w - 1) h (omega arith) in
    let other : eqb (get_or w (length w - 1) 0) 13 ≡ false = unequal (get_or w (length w - 1) 0) 13 (λ e. omega arith) in
    rw other refl

-- Lines.

line_part : (w x : List ℕ) → AreLineBytes w → slice_split is_feed (w ++ 10 ∷ x) ≡ w ∷ slice_split is_feed x
line_part [] x h = refl
line_part (b ∷ bs) x h =
    let here = h.0 in
    let low = here.0 in
    let other : eqb b 10 ≡ false = unequal b 10 (λ e. omega arith) in
    rw (other, line_part bs x h.1) refl

line_first : (w x : List ℕ) → 0 < length w → AreLineBytes w → lines (w ++ 10 ∷ x) ≡ w ∷ lines x
line_first w x l h =
    lines_of_cut (w ++ 10 ∷ x) w x (line_part w x h) ∙ ap (λ line. line ∷ lines x) (no_return w l h)

some_statement : (i : Insn) → 0 < length (statement_text i)
some_statement i = let facts = mnemonic_facts (mnemonic_of i) in let some = facts.1 in omega (arith, length-append (mnemonic_text (mnemonic_of i)) (operand_list (operands_of i)))

canonical_lines : (is : List Insn) → AllByRecursion Fits is → lines (flat_map canonical_line is) ≡ map statement_text is
canonical_lines [] f = refl
canonical_lines (i ∷ is) f =
    ap lines (append_assoc (statement_text i) (10 ∷ []) (flat_map canonical_line is))
    ∙ (line_first (statement_text i) (flat_map canonical_line is) (some_statement i) (statement_line i f.0)
    ∙ ap (λ ls. statement_text i ∷ ls) (canonical_lines is f.1))

-- A line.

record Said (line m : List ℕ) (all : List Argument) : Type 0 where
  pub blank : is_blank_text line ≡ false
  pub word : first_word line ≡ m
  pub operands : map argument_in (operand_texts_of (behind_word line)) ≡ map (λ a. Some a) all

said_line : (b : ℕ) (bs : List ℕ) (all : List Argument) → AreWordBytes (b ∷ bs) → AllByRecursion IsWritten all
    → Said ((b ∷ bs) ++ operand_list all) (b ∷ bs) all
said_line b bs [] h hs =
    let line = append-nil (b ∷ bs) in
    let start = begins_unindented b bs h.0 in
    let behind : behind_word ((b ∷ bs) ++ []) ≡ [] = ap behind_word line ∙ (ap (after_first is_blank) start ∙ nothing_behind (b ∷ bs) h) in
    record {
      blank = begins_no_blank b (bs ++ []) h.0;
      word = ap first_word line ∙ (ap (before_first is_blank) start ∙ word_alone (b ∷ bs) h);
      operands = ap (λ t. map argument_in (operand_texts_of t)) behind;
    }
said_line b bs (a ∷ more) h hs =
    let x = operand_text a ++ flat_map further_text more in
    let start = begins_unindented b (bs ++ 32 ∷ x) h.0 in
    let behind : behind_word ((b ∷ bs) ++ 32 ∷ x) ≡ x = ap (after_first is_blank) start ∙ word_behind (b ∷ bs) x h in
    record {
      blank = begins_no_blank b (bs ++ 32 ∷ x) h.0;
      word = ap (before_first is_blank) start ∙ word_first (b ∷ bs) x h;
      operands = ap (λ t. map argument_in (operand_texts_of t)) behind ∙ operands_said a more hs.0 hs.1;
    }

said_statement : (i : Insn) → Fits i → Said (statement_text i) (mnemonic_text (mnemonic_of i)) (operands_of i)
said_statement i f =
    let w = mnemonic_word (mnemonic_of i) in
    subst (λ (m : List ℕ). Said (m ++ operand_list (operands_of i)) m (operands_of i)) (sym w.is) (said_line w.first w.more (operands_of i) w.bytes (all-written i f))

stands : (i : Insn) → Fits i → StandsFor (statement_text i) i
stands i f =
    let s = said_statement i f in
    let code = no_comment (statement_text i) (statement_line i f) in
    record {
      statement = ap (λ t. not (is_blank_text t)) code ∙ ap not s.blank;
      named = record {
        mnemonic_is = sym (ap first_word code ∙ s.word);
        operands_are = sym (ap (λ t. map argument_in (operand_texts_of (behind_word t))) code ∙ s.operands);
        fits = f;
      };
    }

-- A line is short.

register_length : (r : Reg) → length (register_name r) ≤ 3
register_length regs.R0 = omega arith
register_length _ = omega arith

operand_length : (a : Argument) → IsWritten a → length (operand_text a) ≤ 21
operand_length (Register r) h = let short = register_length r in omega arith
operand_length (Number n) h = length_signed_le 20 n (omega arith) h
operand_length UnknownRegister h = absurd h
operand_length HugeNumber h = absurd h

further_length : (more : List Argument) → AllByRecursion IsWritten more
    → length (flat_map further_text more) ≤ 23 * length more
further_length [] h = omega arith
further_length (a ∷ more) h = omega (arith, length-append (further_text a) (flat_map further_text more), operand_length a h.0, further_length more h.1)

list_length : (all : List Argument) → AllByRecursion IsWritten all → length (operand_list all) ≤ 23 * length all
list_length [] h = omega arith
list_length (a ∷ more) h = omega (arith, length-append (operand_text a) (flat_map further_text more), operand_length a h.0, further_length more h.1)

statement_short : (i : Insn) → Fits i → length (statement_text i) ≤ 1024
statement_short i f =
    let facts = mnemonic_facts (mnemonic_of i) in
    let most = facts.2 in
    omega (arith, length-append (mnemonic_text (mnemonic_of i)) (operand_list (operands_of i)), list_length (operands_of i) (all-written i f), few_operands i)

-- All lines.

all_short : (is : List Insn) → AllByRecursion Fits is → AllByRecursion IsShort (map statement_text is)
all_short [] f = tt
all_short (i ∷ is) f = (statement_short i f.0, all_short is f.1)

all_stand : (is : List Insn) → AllByRecursion Fits is → StandFor (filter is_statement (map statement_text is)) is
all_stand [] f = tt
all_stand (i ∷ is) f =
    let s = stands i f.0 in
    let here = s.statement in
    rw here (s, all_stand is f.1)

pub canonical_stands : (is : List Insn) → IsProgram is → IsTextOf (canonical_text is) is
unfolding canonical_text
canonical_stands is p = record {
  program = p;
  faultless = subst (λ (ls : List (List ℕ)). AreFaultless ls is) (sym (canonical_lines is p.fits)) (record {
    short = all_short is p.fits;
    stand = all_stand is p.fits;
    few = p.few;
  });
}

pub only_canonical : CanonicalTextsStand
only_canonical is p =
    let t = canonical_stands is p in
    let reading = one_reading (canonical_text is) in
    record { stands = t; one_program = λ other s. reading.one_program other is s t }
