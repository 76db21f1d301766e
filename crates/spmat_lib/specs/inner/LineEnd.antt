-- What stands behind the place in the line of an entry.
use Rattle.std.specs.Prelude.{ℕ, List, [], ◌∷◌, ◌++◌, Option, None, Some}
use Rattle.matrix_market.specs.CanonicalText.{value_text}

abbrev pub line_end : Option ℕ → List ℕ
line_end None = 10 ∷ []
line_end (Some word) = 32 ∷ (value_text word ++ 10 ∷ [])
