-- The parts of a line of assembly text: its mnemonic, and the operands after it. This is this project's own grammar.
use Rattle.std.specs.Prelude.{ℕ, ◌^◌, ◌==◌, ◌||◌, not, nat_lt, nat_le, Bool, if◌then◌else◌, List, [], ◌∷◌}
use Rattle.std.specs.Prelude.{map, Option, Some, None, pos, neg_ℤ}
use Rattle.std.specs.List.{before_first, after_first, list_all, slice_split}
use Rattle.std.specs.Option.{option_map}
use Rattle.text_words.specs.Words.{is_blank, unindented}
use Rattle.text_words.specs.Numbers.{decimal_in}
use Rattle.bpf_text.specs.declared.argument.Argument.{Argument}
use Rattle.bpf_text.specs.declared.argument.Argument.TheVariants.{Register, UnknownRegister, Number, HugeNumber}
use Rattle.bpf_text.specs.Names.{register_name}
use Rattle.bpf_text.specs.Tables.{named, all_registers}

-- `;` or `#`
abbrev pub is_comment_mark : ℕ → Bool
is_comment_mark b = (b == 59) || (b == 35)

abbrev pub is_comma : ℕ → Bool
is_comma b = b == 44

-- the line without its comment
abbrev pub code_part : List ℕ → List ℕ
code_part line = before_first is_comment_mark line

-- nothing but blanks
abbrev pub is_blank_text : List ℕ → Bool
is_blank_text text = list_all is_blank text

-- the first word of a text, and what follows the blank after it
abbrev pub first_word : List ℕ → List ℕ
first_word text = before_first is_blank (unindented text)

abbrev pub behind_word : List ℕ → List ℕ
behind_word text = after_first is_blank (unindented text)

-- the line has an instruction; other lines are skipped
abbrev pub is_statement : List ℕ → Bool
is_statement line = not (is_blank_text (code_part line))

abbrev pub mnemonic_in : List ℕ → List ℕ
mnemonic_in line = first_word (code_part line)

-- what follows the mnemonic, split at its commas
abbrev pub operand_texts_of : List ℕ → List (List ℕ)
operand_texts_of text = if is_blank_text text then [] else slice_split is_comma text

abbrev pub operand_texts : List ℕ → List (List ℕ)
operand_texts line = operand_texts_of (behind_word (code_part line))

-- a number after no sign or `+`, and one after `-`
abbrev pub positive : ℕ → Argument
positive n = if nat_lt n (2 ^ 63) then Number (pos n) else HugeNumber

abbrev pub negative : ℕ → Argument
negative n = if nat_le n (2 ^ 63) then Number (neg_ℤ (pos n)) else HugeNumber

abbrev pub unknown_register : ℕ → Argument
unknown_register n = UnknownRegister

-- by the first byte of a word that names no register: `r`, `-`, `+`, or a digit
abbrev pub other_argument : List ℕ → Option Argument
other_argument [] = None
other_argument (b ∷ bs) =
    if b == 114 then option_map unknown_register (decimal_in bs) else
    (if b == 45 then option_map negative (decimal_in bs) else
    (if b == 43 then option_map positive (decimal_in bs) else
    option_map positive (decimal_in (b ∷ bs))))

abbrev pub known_or : List ℕ → Option Argument → Option Argument
known_or word (Some a) = Some a
known_or word None = other_argument word

-- what a word says as an operand, if it says anything
abbrev pub argument_of : List ℕ → Option Argument
argument_of word = known_or word (option_map Register (named register_name all_registers word))

-- what an operand says: one word, with blanks round it
abbrev pub argument_in : List ℕ → Option Argument
argument_in text = if is_blank_text (behind_word text) then argument_of (first_word text) else None

-- what the operands of a line say
abbrev pub arguments_in : List ℕ → List (Option Argument)
arguments_in line = map argument_in (operand_texts line)
