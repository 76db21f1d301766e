-- The words of a line (this project's own): blanks are spaces and tabs alone, and every other byte is part of a word.
use Rattle.std.specs.Prelude.{ℕ, ◌==◌, ◌||◌, Bool, true, false, List, [], ◌∷◌, drop, filter}
use Rattle.std.specs.List.{prefix_len, slice_split}

-- a space or a tab
abbrev pub is_blank : ℕ → Bool
is_blank b = (b == 32) || (b == 9)

abbrev pub is_some_text : List ℕ → Bool
is_some_text [] = false
is_some_text (b ∷ bs) = true

-- the words of a line: the text between blanks
abbrev pub words : List ℕ → List (List ℕ)
words line = filter is_some_text (slice_split is_blank line)

-- a text without the blanks at its front
abbrev pub unindented : List ℕ → List ℕ
unindented text = drop (prefix_len is_blank text) text
