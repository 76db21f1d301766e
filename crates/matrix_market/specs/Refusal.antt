-- That a text is that of one matrix alone, and what a refusal says of it. This project's own.
use Rattle.std.specs.Prelude.{◌≡◌, ◌≤◌, ◌+◌, ℕ, List, [], ◌∷◌, ◌++◌, length, Some}
use Rattle.std.specs.Str.Lines.{lines}
use Rattle.csr_store.specs.Grid.{Grid}
use Rattle.matrix_market.specs.declared.kinds.Banner.{Banner}
use Rattle.matrix_market.specs.declared.kinds.Size.{Size}
use Rattle.matrix_market.specs.Market.{IsFault, IsTextOf, banner_of, content, size_of, rules_at}
use Rattle.matrix_market.specs.declared.rule.MarketError.{MarketError}
use Rattle.matrix_market.specs.declared.rule.MarketError.TheVariants.{Fault, NoRoom, Memory}

-- no matrix has this text
abbrev pub IsNoMatrix : List ℕ → Type 0
IsNoMatrix text = (g : Grid) → IsTextOf text g → ⊥

-- no other matrix has this text
abbrev pub IsOnlyMatrix : List ℕ → Grid → Type 0
IsOnlyMatrix text matrix = (g : Grid) → IsTextOf text g → g ≡ matrix

-- the text begins with lines that give a banner and sizes, and none of them breaks a rule
pub record HasSizes (text : List ℕ) : Type 0 where
  pub first : List ℕ
  pub others : List (List ℕ)
  pub behind : List (List ℕ)
  pub cut : lines text ≡ (first ∷ others) ++ behind
  pub banner : Banner
  pub banner_is : banner_of first ≡ Some banner
  pub size : Size
  pub size_is : size_of (content others) ≡ Some size
  pub faultless : (k : ℕ) → 1 ≤ k → k ≤ length others + 1 → rules_at (lines text) k ≡ []

-- some matrix has this text, so none of its lines breaks a rule
abbrev pub IsText : List ℕ → Type 0
IsText text = (g : Grid) × IsTextOf text g

-- The rule is the one that is named, of the first line that breaks one, and no matrix has the text; or memory was
-- refused, either for entries, which only a text with sizes needs, or for the matrix of a text that breaks no rule.
abbrev pub ExplainsRefusal : List ℕ → MarketError → Type 0
ExplainsRefusal text (Fault rule line) = IsFault text line rule × IsNoMatrix text
ExplainsRefusal text (NoRoom refused) = HasSizes text
ExplainsRefusal text (Memory refused) = IsText text
