-- The rules of Market once more, by what a reader knows of the lines before: the banner, and the lines of content. This project's
-- own.
use Rattle.std.specs.Prelude.{ℕ, nat_lt, if◌then◌else◌, List, [], ◌∷◌, length, Option, Some, None}
use Rattle.text_words.specs.Words.{words}
use Rattle.matrix_market.specs.declared.rule.MarketRule.{MarketRule}
use Rattle.matrix_market.specs.declared.rule.MarketRule.TheVariants.{MalformedSize, TooFewEntries, LineAfterLastEntry}
use Rattle.matrix_market.specs.declared.kinds.Banner.{Banner}
use Rattle.matrix_market.specs.declared.kinds.Size.{Size}
use Rattle.matrix_market.specs.Market.{entries_of, entry_rules, entry_words, is_skipped, role_behind, rules_in}
use Rattle.matrix_market.specs.Market.{size_rules, size_words, tail, when}

-- the rules of the line after these lines, or of the end there
abbrev pub rules_behind : List (List ℕ) → Option (List ℕ) → List MarketRule
rules_behind before = rules_in (role_behind before)

-- the line after a size line and entry lines
abbrev pub sized_rules : Banner → List (List ℕ) → List ℕ → Option Size → List MarketRule
sized_rules b ls line None = []
sized_rules b ls line (Some s) =
    if nat_lt (length (tail ls)) s.entries then entry_rules b s (entries_of b.pattern ls) (entry_words b.pattern (words line))
    else LineAfterLastEntry ∷ []

-- the line after these lines of content
abbrev pub content_rules : Banner → List (List ℕ) → List ℕ → List MarketRule
content_rules b [] line = size_rules b.symmetric (size_words (words line))
content_rules b (l ∷ ls) line = sized_rules b (l ∷ ls) line (size_words (words l))

abbrev pub later_rules : Option Banner → List (List ℕ) → List ℕ → List MarketRule
later_rules None ls line = []
later_rules (Some b) ls line = if is_skipped line then [] else content_rules b ls line

-- what a text lacks that ends after a size line and entry lines
abbrev pub sized_end : List (List ℕ) → Option Size → List MarketRule
sized_end ls None = []
sized_end ls (Some s) = when (nat_lt (length (tail ls)) s.entries) TooFewEntries

-- what the text lacks at its end
abbrev pub end_rules : Option Banner → List (List ℕ) → List MarketRule
end_rules None ls = []
end_rules (Some b) [] = MalformedSize ∷ []
end_rules (Some b) (l ∷ ls) = sized_end (l ∷ ls) (size_words (words l))
