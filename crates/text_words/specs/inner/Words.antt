-- Definitions beside specs/Words.antt for this crate's own modules and proofs.
use Rattle.std.specs.Prelude.{◌≡◌, ℕ, false, List, [], ◌∷◌}
use Rattle.text_words.specs.Words.{is_blank}

-- a text that is empty or begins with a word
abbrev pub IsAtWord : List ℕ → Type 0
IsAtWord [] = Unit {0}
IsAtWord (b ∷ bs) = is_blank b ≡ false
