-- Of some rules that are broken one is the lowest.
use Rattle.std.proofs.Common.{◌≡◌, ◌<◌, ◌==◌, if◌then◌else◌, ℕ, arith, sym, ◌∙◌, ap}
use Rattle.bpf_insn.specs.declared.rule.CodeRule.{CodeRule}
use Rattle.bpf_insn.specs.declared.rule.CodeRule.TheVariants.{BadLength, UnknownOpcode, OutsideProfile, RegisterAboveTen}
use Rattle.bpf_insn.specs.declared.rule.CodeRule.TheVariants.{UnusedField, BrokenWideLoad, JumpsBack, JumpsNowhere, StackTopWritten}
use Rattle.bpf_insn.specs.declared.rule.CodeRule.TheVariants.{NoExitAtEnd, UnsetRead, MixedRead, NumberWanted, PlaceWanted}
use Rattle.bpf_insn.specs.declared.rule.CodeRule.TheVariants.{OutsideStack, UnstoredRead}
use Rattle.bpf_insn.specs.Rule.{rule_number, IsLowest}

-- a rule is told by its number
rule_of : ℕ → CodeRule
rule_of n = if n == 1 then BadLength else (if n == 2 then UnknownOpcode else (if n == 3 then OutsideProfile else (if n == 4 then RegisterAboveTen else (if n == 5 then UnusedField else (if n == 6 then BrokenWideLoad else (if n == 7 then JumpsBack else (if n == 8 then JumpsNowhere else (if n == 9 then StackTopWritten else (if n == 10 then NoExitAtEnd else (if n == 11 then UnsetRead else (if n == 12 then MixedRead else (if n == 13 then NumberWanted else (if n == 14 then PlaceWanted else (if n == 15 then OutsideStack else UnstoredRead))))))))))))))

rule_back : (r : CodeRule) → rule_of (rule_number r) ≡ r
unfolding rule_of
rule_back r = grind arith

rule_number-injective : (r s : CodeRule) → rule_number r ≡ rule_number s → r ≡ s
rule_number-injective r s e = sym (rule_back r) ∙ ap rule_of e ∙ rule_back s

pub lowest-one : (IsBroken : CodeRule → Type 0) (q r : CodeRule) → IsLowest IsBroken q → IsLowest IsBroken r → q ≡ r
lowest-one IsBroken q r a b =
    let above : rule_number q < rule_number r → ⊥ = λ h. b.lowest q h a.broken in
    let below : rule_number r < rule_number q → ⊥ = λ h. a.lowest r h b.broken in
    rule_number-injective q r (omega (arith, above, below))
