-- Definitions beside specs/Numbers.antt for this crate's own modules and proofs.
use Rattle.std.specs.Prelude.{ℕ, ◌^◌, Option, Some}
use Rattle.text_words.specs.Numbers.{below}

-- a number, if 64 bits hold it
abbrev pub in_word : ℕ → Option ℕ
in_word n = below (2 ^ 64) (Some n)
