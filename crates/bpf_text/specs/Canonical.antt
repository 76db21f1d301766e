-- The one text of a program that is written: a line for each instruction, the mnemonic, a space before the operands, `, `
-- between them, numbers without `+` and without leading zeros, and LF after each line. This is this project's own.
use Rattle.std.specs.Prelude.{ℕ, ◌≡◌, List, [], ◌∷◌, ◌++◌, codes}
use Rattle.std.specs.Fmt.{signed_decimal}
use Rattle.std.specs.List.{flat_map}
use Rattle.bpf_insn.specs.declared.insn.Insn.{Insn}
use Rattle.bpf_insn.specs.Program.{IsProgram}
use Rattle.bpf_text.specs.declared.argument.Argument.{Argument}
use Rattle.bpf_text.specs.declared.argument.Argument.TheVariants.{Register, UnknownRegister, Number, HugeNumber}
use Rattle.bpf_text.specs.Names.{register_name}
use Rattle.bpf_text.specs.Mnemonics.{mnemonic_of, mnemonic_text, operands_of}
use Rattle.bpf_text.specs.Text.{IsTextOf}

-- an operand of an instruction is a register or a number
abbrev pub operand_text : Argument → List ℕ
operand_text (Register r) = register_name r
operand_text (Number n) = signed_decimal n
operand_text UnknownRegister = []
operand_text HugeNumber = []

-- an operand that is not the first
abbrev pub further_text : Argument → List ℕ
further_text a = codes ", " ++ operand_text a

abbrev pub operand_list : List Argument → List ℕ
operand_list [] = []
operand_list (a ∷ more) = codes " " ++ operand_text a ++ flat_map further_text more

-- an instruction without its line end
abbrev pub statement_text : Insn → List ℕ
statement_text i = mnemonic_text (mnemonic_of i) ++ operand_list (operands_of i)

abbrev pub canonical_line : Insn → List ℕ
canonical_line i = statement_text i ++ 10 ∷ []

unfoldable pub canonical_text : List Insn → List ℕ
canonical_text is = flat_map canonical_line is

-- The text of a program: the text denotes it, and no other.
pub record IsOnlyTextOf (text : List ℕ) (is : List Insn) : Type 0 where
  pub stands : IsTextOf text is
  pub one_program : (other : List Insn) → IsTextOf text other → other ≡ is

-- what is written denotes the program, for every program: so assembling undoes disassembling
abbrev pub CanonicalTextsStand : Type 0
CanonicalTextsStand = (is : List Insn) → IsProgram is → IsOnlyTextOf (canonical_text is) is
