-- The body of `op`: hexadecimal digits of either case, with gaps anywhere between them (this project's own; the digits are those of
-- the crate `hex`).
use Rattle.std.specs.Prelude.{ℕ, ◌==◌, ◌||◌, not, Bool, List, filter}
use Rattle.text_words.specs.Words.{is_blank}

-- a space, a tab, a CR or an LF
abbrev pub is_gap : ℕ → Bool
is_gap b = is_blank b || ((b == 13) || (b == 10))

-- what is left of the body of `op` without its gaps
abbrev pub without_gaps : List ℕ → List ℕ
without_gaps body = filter (λ b. not (is_gap b)) body
