-- Words with bits: a word of a column counts where the column's bit is set. This project's own.
use Rattle.std.specs.Prelude.{◌≡◌, ◌≤◌, ◌<◌, ◌/◌, ◌%◌, ℕ, zero, suc, nat_eq, if◌then◌else◌}
use Rattle.std.specs.Prelude.{List, [], ◌∷◌, Option, None, Some, length, slice_index_or}
use Rattle.std.specs.Int.{bit_at}
use Rattle.std.specs.List.{Contains}
use Rattle.row_product.specs.inner.Sums.{slot}

-- the bit of a column, in words of 64
abbrev pub bit_of : List ℕ → ℕ → ℕ
bit_of bits j = bit_at (slice_index_or bits (j / 64) 0) (j % 64)

-- the word of a column, if its bit is set
abbrev pub word_at : List ℕ → List ℕ → ℕ → Option ℕ
word_at bits words j = if nat_eq (bit_of bits j) 1 then Some (slice_index_or words j 0) else None

-- the same of n columns from `first` on
abbrev pub words_of : List ℕ → List ℕ → ℕ → ℕ → List (Option ℕ)
words_of bits words first zero = []
words_of bits words first (suc n) = word_at bits words first ∷ words_of bits words (suc first) n

-- no column from n on has its bit set
abbrev pub AreClear : ℕ → List ℕ → Type 0
AreClear n bits = (j : ℕ) → n ≤ j → bit_of bits j ≡ 0

-- each column that has a sum has its bit set
abbrev pub AreMarked : List ℕ → List (Option ℕ) → Type 0
AreMarked bits sums = (j v : ℕ) → slot sums j ≡ Some v → bit_of bits j ≡ 1

-- each column that has a sum is listed
abbrev pub AreAllListed : List (Option ℕ) → List ℕ → Type 0
AreAllListed sums touched = (j v : ℕ) → slot sums j ≡ Some v → Contains touched j

-- the same, unless the list is full
abbrev pub AreListed : ℕ → List (Option ℕ) → List ℕ → Type 0
AreListed most sums touched = length touched < most → AreAllListed sums touched
