-- The word that a value of an entry line writes: a whole number with an optional sign, in range (the Matrix Market format's
-- `integer`; the range of signed words is this project's own).
use Rattle.std.specs.Prelude.{ℕ, List, Option, Some, None, if◌then◌else◌}
use Rattle.matrix_market.specs.Market.{Value, value, is_word, word_of}

abbrev pub in_range : Option Value → Option ℕ
in_range None = None
in_range (Some v) = if is_word v then Some (word_of v) else None

abbrev pub value_word : List ℕ → Option ℕ
value_word word = in_range (value word)
