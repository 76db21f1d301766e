-- Definitions beside specs/Refusal.antt for this crate's own modules and proofs.
use Rattle.std.specs.Prelude.{ℕ, List}
use Rattle.matrix_market.specs.Market.{IsFault}
use Rattle.matrix_market.specs.declared.rule.MarketError.{MarketError}
use Rattle.matrix_market.specs.declared.rule.MarketError.TheVariants.{Fault, NoRoom, Memory}
use Rattle.matrix_market.specs.Refusal.{HasSizes, IsText}

-- the first half of it
abbrev pub NamesFault : List ℕ → MarketError → Type 0
NamesFault text (Fault rule line) = IsFault text line rule
NamesFault text (NoRoom refused) = HasSizes text
NamesFault text (Memory refused) = IsText text
