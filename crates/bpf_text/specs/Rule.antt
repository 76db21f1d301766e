-- The names and the order of the rules of assembly text. They are this project's own.
use Rattle.std.specs.Prelude.{ℕ, List, codes}
use Rattle.bpf_text.specs.declared.rule.AsmRule.{AsmRule}
use Rattle.bpf_text.specs.declared.rule.AsmRule.TheVariants.{LineTooLong, UnknownMnemonic, MalformedOperands, UnknownRegister}
use Rattle.bpf_text.specs.declared.rule.AsmRule.TheVariants.{NumberOutOfRange, BadLength}

-- how the product writes a rule
abbrev pub rule_name : AsmRule → List ℕ
rule_name LineTooLong = codes "A1"
rule_name UnknownMnemonic = codes "A2"
rule_name MalformedOperands = codes "A3"
rule_name UnknownRegister = codes "A4"
rule_name NumberOutOfRange = codes "A5"
rule_name BadLength = codes "A6"

-- its number: where a line breaks several rules, the lowest is named
abbrev pub rule_number : AsmRule → ℕ
rule_number LineTooLong = 1
rule_number UnknownMnemonic = 2
rule_number MalformedOperands = 3
rule_number UnknownRegister = 4
rule_number NumberOutOfRange = 5
rule_number BadLength = 6
