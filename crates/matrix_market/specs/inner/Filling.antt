-- Where a reader is in a text, and what it has read.
use Rattle.std.specs.Prelude.{◌≡◌, ℕ, ◌≤◌, ◌+◌, List, [], ◌∷◌, ◌++◌, length, Some}
use Rattle.std.specs.Str.Lines.{lines}
use Rattle.std.specs.FinMap as fin
use Rattle.csr_store.specs.Grid.{Grid, Position}
use Rattle.matrix_market.specs.declared.kinds.Banner.{Banner}
use Rattle.matrix_market.specs.declared.kinds.Size.{Size}
use Rattle.text_words.specs.Words.{words}
use Rattle.matrix_market.specs.Market.{content, banner_of, rules_at, size_words, words_at, entries_of, at_most}

-- no line up to one breaks a rule
abbrev pub Clean : List (List ℕ) → ℕ → Type 0
Clean ls n = (k : ℕ) → 1 ≤ k → k ≤ n → rules_at ls k ≡ []

-- line n was read, these are the lines of content after the first, and these lines follow
pub record At (ls : List (List ℕ)) (b : Banner) (cs rest : List (List ℕ)) (n : ℕ) : Type 0 where
  pub first : List ℕ
  pub done : List (List ℕ)
  pub split : ls ≡ (first ∷ done) ++ rest
  pub counts : n ≡ length done + 1
  pub clean : Clean ls n
  pub banner_is : banner_of first ≡ Some b
  pub content_is : content done ≡ cs

-- the entry lines that were read so far
pub record Filled (text : List ℕ) (b : Banner) (s : Size) (g : Grid) (rest : List ℕ) (n given : ℕ) : Type 0 where
  pub size_line : List ℕ
  pub entry_lines : List (List ℕ)
  pub here : At (lines text) b (size_line ∷ entry_lines) (lines rest) n
  pub size_is : size_words (words size_line) ≡ Some s
  pub rows_small : s.rows ≤ 16777216
  pub columns_small : s.columns ≤ 16777216
  pub entries_small : s.entries ≤ 16777216
  pub given_is : length entry_lines ≡ given
  pub rows_are : g.rows ≡ s.rows
  pub columns_are : g.columns ≡ s.columns
  pub cells_are : (p : Position)
      → words_at b.symmetric (entries_of b.pattern (size_line ∷ entry_lines)) p ≡ at_most (fin.get g.cells p)
