-- What the parts of the assembler have found.
use Rattle.std.specs.Prelude.{ℕ, ◌≡◌, ◌<◌, ◌++◌, true, false, List, Option, Some, None, option_to_list}
use Rattle.bpf_insn.specs.declared.insn.Insn.{Insn}
use Rattle.bpf_insn.specs.declared.reg.Reg.TheVariants.{R0}
use Rattle.bpf_insn.specs.Program.{slot_count}
use Rattle.bpf_text.specs.declared.argument.Argument.{Argument}
use Rattle.bpf_text.specs.declared.argument.Argument.TheVariants.{Register, UnknownRegister, Number, HugeNumber}
use Rattle.bpf_text.specs.declared.rule.AsmRule.{AsmRule}
use Rattle.bpf_text.specs.declared.listing.Listing.{Listing}
use Rattle.bpf_text.specs.Rule.{rule_number}
use Rattle.bpf_text.specs.Lines.{is_statement}
use Rattle.bpf_text.specs.Text.{StandsFor, IsShort, Misnames}
use Rattle.std.specs.Prelude.{pos}

-- R0 for a register, and 0 for a number
abbrev pub cleared : Argument → Argument
cleared (Register r) = Register R0
cleared UnknownRegister = Register R0
cleared (Number n) = Number (pos 0)
cleared HugeNumber = Number (pos 0)

-- the rule is broken by a word and operands, and none of a lower number
pub record IsLowestMisnamed (word : List ℕ) (operands : List (Option Argument)) (rule : AsmRule) : Type 0 where
  pub broken : Misnames word operands rule
  pub lowest : (lower : AsmRule) → rule_number lower < rule_number rule → Misnames word operands lower → ⊥

-- the line denotes the instruction, if there is one, and otherwise is skipped
abbrev pub Gives : List ℕ → Option Insn → Type 0
Gives line None = is_statement line ≡ false
Gives line (Some i) = StandsFor line i

-- the listing is of these instructions
pub record Lists (l : Listing) (is : List Insn) : Type 0 where
  pub count : l.slots ≡ slot_count is
  pub kept : l.is_whole ≡ true → l.insns.items ≡ is

-- the line was read: it is without fault, and its instruction, if it has one, comes after the others
pub record Reads (line : List ℕ) (before : List Insn) (new : Listing) : Type 0 where
  pub insn : Option Insn
  pub short : IsShort line
  pub gives : Gives line insn
  pub lists : Lists new (before ++ option_to_list insn)
