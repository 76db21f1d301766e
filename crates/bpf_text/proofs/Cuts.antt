-- A text cut at the first byte that passes a test.
use Rattle.std.proofs.Common.{◌≡◌, ◌<◌, ◌+◌, ◌-◌, ℕ, suc, Bool, List, [], ◌∷◌, true, false, length, take, drop, get_or, refl, ap, ◌∙◌, arith}
use Rattle.std.specs.List.{position_or_len, before_first, after_first, slice_split}
use Rattle.std.proofs.lemmas.List.{drop_all, take_all, take_rest}
use Rattle.std.proofs.lemmas.List.Sums.{position_or_len_is}
use Rattle.std.proofs.lemmas.List.Splits.{slice_split_first}

module _ (p : ℕ → Bool) (text : List ℕ) (i : ℕ) (l : i < length text) (before : (k : ℕ) → k < i → p (get_or text k 0) ≡ false) (here : p (get_or text i 0) ≡ true) where
  place : position_or_len p text ≡ i
  place = position_or_len_is p text i 0 (omega arith) before (λ _. here)

  pub front_at : before_first p text ≡ take i text
  front_at = ap (λ n. take n text) place

  pub behind_at : after_first p text ≡ drop (i + 1) text
  behind_at = ap (λ n. drop (n + 1) text) place

  pub parts_at : slice_split p text ≡ take i text ∷ slice_split p (drop (i + 1) text)
  parts_at = slice_split_first p text 0 (omega (arith, place)) ∙ (λ j. front_at j ∷ slice_split p (behind_at j))

module _ (p : ℕ → Bool) (text : List ℕ) (none : (k : ℕ) → k < length text → p (get_or text k 0) ≡ false) where
  nowhere : position_or_len p text ≡ length text
  nowhere = position_or_len_is p text (length text) 0 (omega arith) none (λ l. absurd (omega arith))

  pub front_none : before_first p text ≡ text
  front_none = ap (λ n. take n text) nowhere ∙ take_all (length text) text (omega arith)

  pub behind_none : after_first p text ≡ []
  behind_none = ap (λ n. drop (n + 1) text) nowhere ∙ drop_all (length text + 1) text (omega arith)

pub parts_none : (p : ℕ → Bool) (text : List ℕ) → ((k : ℕ) → k < length text → p (get_or text k 0) ≡ false) → slice_split p text ≡ text ∷ []
parts_none p [] none = refl
parts_none p (b ∷ bs) none =
    let here : p b ≡ false = none 0 (omega arith) in
    rw (here, parts_none p bs (λ k l. none (suc k) (omega arith))) refl

-- as a slice has what is behind a place
pub rest_behind : (bs : List ℕ) (n : ℕ) → take (length bs - n) (drop n bs) ≡ drop n bs
rest_behind bs n = take_rest bs n
