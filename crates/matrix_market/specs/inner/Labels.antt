-- The parts of an entry's line.
use Rattle.std.specs.Prelude.{ℕ, ◌+◌, List, [], ◌∷◌, ◌++◌, decimal}
use Rattle.matrix_market.specs.CanonicalText.{value_text}

-- what each line of a row begins with
abbrev pub label_text : ℕ → List ℕ
label_text row = decimal (row + 1) ++ 32 ∷ []

-- what follows it
abbrev pub rest_of_line : ℕ → ℕ → List ℕ
rest_of_line column word = decimal (column + 1) ++ 32 ∷ (value_text word ++ 10 ∷ [])
