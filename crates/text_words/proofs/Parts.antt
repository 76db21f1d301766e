-- A text cut at the first byte that passes a test.
use Rattle.std.proofs.Common.{◌≡◌, ◌<◌, ◌+◌, ℕ, Bool, List, [], ◌∷◌, true, false, length, take, drop, get_or}
use Rattle.std.proofs.Common.{◌∙◌, arith}
use Rattle.std.specs.List.{position_or_len, slice_split}
use Rattle.std.proofs.lemmas.List.Elements.{All-from_get_or}
use Rattle.std.proofs.lemmas.List.Sums.{position_or_len_is}
use Rattle.std.proofs.lemmas.List.Splits.{slice_split_first, slice_split_none}

-- the bytes before a place do not pass
abbrev pub NoneBefore : (ℕ → Bool) → List ℕ → ℕ → Type 0
NoneBefore p text i = (k : ℕ) → k < i → p (get_or text k 0) ≡ false

pub part_at : (p : ℕ → Bool) (text : List ℕ) (i : ℕ) → i < length text → NoneBefore p text i
    → p (get_or text i 0) ≡ true
    → slice_split p text ≡ take i text ∷ slice_split p (drop (i + 1) text)
part_at p text i l before here =
    let place : position_or_len p text ≡ i = position_or_len_is p text i 0 (omega arith) before (λ _. here) in
    slice_split_first p text 0 (omega (arith, place)) ∙ (λ j. take (place j) text ∷ slice_split p (drop (place j + 1) text))

pub one_part : (p : ℕ → Bool) (text : List ℕ) → NoneBefore p text (length text) → slice_split p text ≡ text ∷ []
one_part p text none = slice_split_none p text (All-from_get_or (λ b. p b ≡ false) text 0 none)
