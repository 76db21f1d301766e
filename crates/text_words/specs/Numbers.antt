-- The number that a word writes in decimal digits (this project's own).
use Rattle.std.specs.Prelude.{ℕ, ◌+◌, ◌-◌, ◌*◌, ◌^◌, nat_lt, min, if◌then◌else◌, List, [], ◌∷◌}
use Rattle.std.specs.Prelude.{Option, Some, None}
use Rattle.std.specs.Char.{is_ascii_digit}
use Rattle.std.specs.Option.{option_map}

-- the number that decimal digits write after those of n
abbrev pub digits_after : ℕ → List ℕ → Option ℕ
digits_after n [] = Some n
digits_after n (b ∷ bs) = if is_ascii_digit b then digits_after (n * 10 + (b - 48)) bs else None

-- the number that one or more decimal digits write; what is anything else writes none
abbrev pub decimal_in : List ℕ → Option ℕ
decimal_in [] = None
decimal_in (b ∷ bs) = digits_after 0 (b ∷ bs)

-- a number, if it is below the limit
abbrev pub below : ℕ → Option ℕ → Option ℕ
below limit None = None
below limit (Some n) = if nat_lt n limit then Some n else None

-- a number, or the largest of 64 bits instead of a larger one
abbrev pub held : ℕ → ℕ
held n = min n (2 ^ 64 - 1)

abbrev pub held_number : Option ℕ → Option ℕ
held_number = option_map held
