-- The names and the order of the rules of code. They are this project's own.
use Rattle.std.specs.Prelude.{ℕ, ◌<◌, List, codes}
use Rattle.bpf_insn.specs.declared.rule.CodeRule.{CodeRule}
use Rattle.bpf_insn.specs.declared.rule.CodeRule.TheVariants.{BadLength, UnknownOpcode, OutsideProfile, RegisterAboveTen}
use Rattle.bpf_insn.specs.declared.rule.CodeRule.TheVariants.{UnusedField, BrokenWideLoad, JumpsBack, JumpsNowhere, StackTopWritten}
use Rattle.bpf_insn.specs.declared.rule.CodeRule.TheVariants.{NoExitAtEnd, UnsetRead, MixedRead, NumberWanted, PlaceWanted}
use Rattle.bpf_insn.specs.declared.rule.CodeRule.TheVariants.{OutsideStack, UnstoredRead}

-- how the product writes a rule
abbrev pub rule_name : CodeRule → List ℕ
rule_name BadLength = codes "V1"
rule_name UnknownOpcode = codes "V2"
rule_name OutsideProfile = codes "V3"
rule_name RegisterAboveTen = codes "V4"
rule_name UnusedField = codes "V5"
rule_name BrokenWideLoad = codes "V6"
rule_name JumpsBack = codes "V7"
rule_name JumpsNowhere = codes "V8"
rule_name StackTopWritten = codes "V9"
rule_name NoExitAtEnd = codes "V10"
rule_name UnsetRead = codes "V11"
rule_name MixedRead = codes "V12"
rule_name NumberWanted = codes "V13"
rule_name PlaceWanted = codes "V14"
rule_name OutsideStack = codes "V15"
rule_name UnstoredRead = codes "V16"

-- its number: where several rules are broken, the lowest is named
abbrev pub rule_number : CodeRule → ℕ
rule_number BadLength = 1
rule_number UnknownOpcode = 2
rule_number OutsideProfile = 3
rule_number RegisterAboveTen = 4
rule_number UnusedField = 5
rule_number BrokenWideLoad = 6
rule_number JumpsBack = 7
rule_number JumpsNowhere = 8
rule_number StackTopWritten = 9
rule_number NoExitAtEnd = 10
rule_number UnsetRead = 11
rule_number MixedRead = 12
rule_number NumberWanted = 13
rule_number PlaceWanted = 14
rule_number OutsideStack = 15
rule_number UnstoredRead = 16

-- of the rules that are broken, this is the one of the lowest number
pub record IsLowest (IsBroken : CodeRule → Type 0) (rule : CodeRule) : Type 0 where
  pub broken : IsBroken rule
  pub lowest : (lower : CodeRule) → rule_number lower < rule_number rule → IsBroken lower → ⊥
