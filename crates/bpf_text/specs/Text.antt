-- Which program an assembly text denotes, and where a text is at fault. The text is this project's own; the instructions are
-- those of RFC 9669.
--
-- Lines end at LF, a CR before it is dropped, and the last LF may be missing: std's `lines`.
use Rattle.std.specs.Prelude.{ℕ, ◌≡◌, ◌≢◌, ◌+◌, ◌<◌, ◌≤◌, ◌⊎◌, Bool, true, false, List, []}
use Rattle.std.specs.Prelude.{◌∷◌, ◌++◌, length, map, filter, Option, Some}
use Rattle.std.specs.List.{AllByRecursion, list_any}
use Rattle.std.specs.Option.{option_map}
use Rattle.std.specs.Str.Lines.{lines}
use Rattle.bpf_insn.specs.declared.insn.Insn.{Insn}
use Rattle.bpf_insn.specs.Spelling.{Fits}
use Rattle.bpf_insn.specs.Program.{slots_of, slot_count, IsProgram}
use Rattle.bpf_text.specs.declared.argument.Argument.{Argument}
use Rattle.bpf_text.specs.declared.argument.Argument.TheVariants as arguments
use Rattle.bpf_text.specs.declared.rule.AsmRule.{AsmRule}
use Rattle.bpf_text.specs.declared.rule.AsmRule.TheVariants.{LineTooLong, UnknownMnemonic, MalformedOperands, UnknownRegister}
use Rattle.bpf_text.specs.declared.rule.AsmRule.TheVariants.{NumberOutOfRange, BadLength}
use Rattle.bpf_text.specs.declared.fault.AsmFault.{AsmFault}
use Rattle.bpf_text.specs.declared.fault.AsmError.{AsmError}
use Rattle.bpf_text.specs.declared.fault.AsmError.TheVariants as errors
use Rattle.bpf_text.specs.Rule.{rule_number}
use Rattle.bpf_text.specs.Mnemonics.{mnemonic_of, mnemonic_text, operands_of}
use Rattle.bpf_text.specs.Lines.{is_statement, mnemonic_in, arguments_in}

-- a word and operands are those of the instruction, whose numbers have the widths of their fields
pub record Names (word : List ℕ) (operands : List (Option Argument)) (i : Insn) : Type 0 where
  pub mnemonic_is : mnemonic_text (mnemonic_of i) ≡ word
  pub operands_are : map (λ a. Some a) (operands_of i) ≡ operands
  pub fits : Fits i

-- the line denotes the instruction
pub record StandsFor (line : List ℕ) (i : Insn) : Type 0 where
  pub statement : is_statement line ≡ true
  pub named : Names (mnemonic_in line) (arguments_in line) i

-- lines denote instructions, one by one
abbrev pub StandFor : List (List ℕ) → List Insn → Type 0
StandFor [] [] = Unit {0}
StandFor (l ∷ ls) (i ∷ is) = StandsFor l i × StandFor ls is
StandFor [] (i ∷ is) = ⊥
StandFor (l ∷ ls) [] = ⊥

-- of at most 1,024 bytes, without the line end
abbrev pub IsShort : List ℕ → Type 0
IsShort line = length line ≤ 1024

-- no line is too long, and those that are not skipped denote the instructions, which have no more than 4,096 slots
pub record AreFaultless (ls : List (List ℕ)) (is : List Insn) : Type 0 where
  pub short : AllByRecursion IsShort ls
  pub stand : StandFor (filter is_statement ls) is
  pub few : slot_count is ≤ 4096

-- the text denotes the program
pub record IsTextOf (text : List ℕ) (is : List Insn) : Type 0 where
  pub program : IsProgram is
  pub faultless : AreFaultless (lines text) is

-- Which rules a line breaks.

-- a register word, known or not; other operands are numbers
abbrev pub is_register : Argument → Bool
is_register (arguments.Register r) = true
is_register arguments.UnknownRegister = true
is_register (arguments.Number n) = false
is_register arguments.HugeNumber = false

-- registers and numbers, in their order
abbrev pub kinds : List (Option Argument) → List (Option Bool)
kinds operands = map (λ o. option_map is_register o) operands

abbrev pub is_unknown : Option Argument → Bool
is_unknown (Some arguments.UnknownRegister) = true
is_unknown _ = false

-- The word and the operands of a line break the rule; with that of a lower number, this one may be broken too.
abbrev pub Misnames : List ℕ → List (Option Argument) → AsmRule → Type 0
Misnames word operands UnknownMnemonic = (i : Insn) → mnemonic_text (mnemonic_of i) ≢ word
Misnames word operands MalformedOperands =
    (i : Insn) → mnemonic_text (mnemonic_of i) ≡ word → kinds (map (λ a. Some a) (operands_of i)) ≢ kinds operands
Misnames word operands UnknownRegister = list_any is_unknown operands ≡ true
Misnames word operands NumberOutOfRange = (i : Insn) → Names word operands i → ⊥
Misnames word operands LineTooLong = ⊥
Misnames word operands BadLength = ⊥

-- a line after lines that denote instructions breaks the rule
abbrev pub Breaks : List Insn → List ℕ → AsmRule → Type 0
Breaks before line LineTooLong = 1024 < length line
Breaks before line BadLength = (i : Insn) × StandsFor line i × (4096 < slot_count before + slots_of i)
Breaks before line rule = (is_statement line ≡ true) × Misnames (mnemonic_in line) (arguments_in line) rule

-- the rule is broken, and none of a lower number
pub record IsLowestBroken (before : List Insn) (line : List ℕ) (rule : AsmRule) : Type 0 where
  pub broken : Breaks before line rule
  pub lowest : (lower : AsmRule) → rule_number lower < rule_number rule → Breaks before line lower → ⊥

-- all lines before it are without fault, and the line breaks the rule
pub record IsFaultyLine (text : List ℕ) (f : AsmFault) : Type 0 where
  pub before : List (List ℕ)
  pub line : List ℕ
  pub behind : List (List ℕ)
  pub insns : List Insn
  pub cut : lines text ≡ before ++ line ∷ behind
  pub numbered : f.line ≡ length before + 1
  pub faultless : AreFaultless before insns
  pub fault : IsLowestBroken insns line f.rule

-- all lines are without fault, and none of them has an instruction
pub record HasNoInstruction (text : List ℕ) (f : AsmFault) : Type 0 where
  pub faultless : AreFaultless (lines text) []
  pub numbered : f.line ≡ length (lines text) + 1
  pub name : f.rule ≡ BadLength

-- the one fault of a text: its first faulty line and the lowest rule there
abbrev pub IsTextFault : List ℕ → AsmFault → Type 0
IsTextFault text f = IsFaultyLine text f ⊎ HasNoInstruction text f

-- why a text is refused: its fault, or, if it denotes a program, "out of memory"
abbrev pub ExplainsRefusal : List ℕ → AsmError → Type 0
ExplainsRefusal text (errors.Fault f) = IsTextFault text f
ExplainsRefusal text errors.Memory = (is : List Insn) × IsTextOf text is

-- the text denotes one program at most, and then has no fault; otherwise it has one fault at most
pub record HasOneReading (text : List ℕ) : Type 0 where
  pub one_program : (a b : List Insn) → IsTextOf text a → IsTextOf text b → a ≡ b
  pub no_fault : (is : List Insn) (f : AsmFault) → IsTextOf text is → IsTextFault text f → ⊥
  pub one_fault : (f g : AsmFault) → IsTextFault text f → IsTextFault text g → f ≡ g
