-- The decimal digits of a number write that number.
use Rattle.std.proofs.Common.{◌≡◌, ◌<◌, ◌+◌, ◌-◌, ◌*◌, ◌/◌, ◌%◌, ◌^◌, ℕ, List, [], ◌∷◌}
use Rattle.std.proofs.Common.{◌++◌, true, false, cond, None, Some}
use Rattle.std.proofs.Common.{ap, ◌∙◌, arith}
use Rattle.std.proofs.lemmas.Bool.Decides.{nat_tests}
use Rattle.std.proofs.lemmas.Fmt.{decimal_by_steps, decimal_nonempty}
use Rattle.std.specs.Char.{is_ascii_digit}
use Rattle.std.specs.Fmt.{decimal}
use Rattle.text_words.specs.Numbers.{digits_after, decimal_in}
use Rattle.text_words.proofs.Digits.{digits_some}

-- one more digit
pub digits_more : (n m b : ℕ) (ds : List ℕ) → digits_after n ds ≡ Some m → is_ascii_digit b ≡ true
    → digits_after n (ds ++ b ∷ []) ≡ Some (m * 10 + (b - 48))
digits_more n m b [] e d = let same : n ≡ m = cc in rw d (ap (λ k. Some (k * 10 + (b - 48))) same)
digits_more n m b (x ∷ ds) e d =
    elim (is_ascii_digit x) as
    (λ t. cond t (digits_after (n * 10 + (x - 48)) ds) None ≡ Some m
    → cond t (digits_after (n * 10 + (x - 48)) (ds ++ b ∷ [])) None ≡ Some (m * 10 + (b - 48))) [
      | true ↦ λ h. digits_more (n * 10 + (x - 48)) m b ds h d
      | false ↦ λ h. absurd (cc)
    ] e

pub is_digit : (d : ℕ) → d < 10 → is_ascii_digit (48 + d) ≡ true
is_digit d h = grind (arith, nat_tests)

pub decimal_read : (n : ℕ) → n < 2 ^ 64 → digits_after 0 (decimal n) ≡ Some n
decimal_read n h =
    decimal_by_steps (λ m ds. digits_after 0 ds ≡ Some m)
    (λ m l. rw (is_digit m l) (ap Some (let e : 0 * 10 + (48 + m - 48) ≡ m = omega arith in e)))
    (λ m ds l p. digits_more 0 (m / 10) (48 + m % 10) ds p (is_digit (m % 10) (omega arith))
    ∙ ap Some (let e : m / 10 * 10 + (48 + m % 10 - 48) ≡ m = omega arith in e))
    n h

pub decimal_written : (n : ℕ) → n < 2 ^ 64 → decimal_in (decimal n) ≡ Some n
decimal_written n h = digits_some (decimal n) (decimal_nonempty n h) ∙ decimal_read n h
