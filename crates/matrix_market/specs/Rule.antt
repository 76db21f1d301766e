-- The names of the rules of matrix text. They are this project's own.
use Rattle.std.specs.Prelude.{ℕ, List, codes}
use Rattle.matrix_market.specs.declared.rule.MarketRule.{MarketRule}
use Rattle.matrix_market.specs.declared.rule.MarketRule.TheVariants.{MalformedBanner, OutsideProfile, MalformedSize, SizeAboveLimit}
use Rattle.matrix_market.specs.declared.rule.MarketRule.TheVariants.{MalformedEntry, IndexOutsideMatrix, ValueOutOfRange}
use Rattle.matrix_market.specs.declared.rule.MarketRule.TheVariants.{PositionGivenTwice, TooFewEntries, LineAfterLastEntry}
use Rattle.matrix_market.specs.declared.rule.MarketRule.TheVariants.{LineTooLong, SymmetricNotSquare}

-- how the product writes a rule
abbrev pub rule_name : MarketRule → List ℕ
rule_name MalformedBanner = codes "M1"
rule_name OutsideProfile = codes "M2"
rule_name MalformedSize = codes "M3"
rule_name SizeAboveLimit = codes "M4"
rule_name MalformedEntry = codes "M5"
rule_name IndexOutsideMatrix = codes "M6"
rule_name ValueOutOfRange = codes "M7"
rule_name PositionGivenTwice = codes "M8"
rule_name TooFewEntries = codes "M9"
rule_name LineAfterLastEntry = codes "M10"
rule_name LineTooLong = codes "M11"
rule_name SymmetricNotSquare = codes "M12"
