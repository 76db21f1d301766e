-- Digits, one after another.
use Rattle.std.proofs.Common.{◌≡◌, ◌≤◌, ◌<◌, ◌+◌, ◌-◌, ◌*◌, ◌^◌, ℕ, List, [], ◌∷◌, Bool}
use Rattle.std.proofs.Common.{true, false, ◌&&◌, cond, None, Some, length, get_or, drop}
use Rattle.std.proofs.Common.{refl, sym, ap, ◌∙◌, arith}
use Rattle.std.proofs.lemmas.Bool.{le-ltb}
use Rattle.std.proofs.lemmas.Bool.Decides.{nat_tests}
use Rattle.std.proofs.lemmas.List.{at_drop_more}
use Rattle.std.specs.Bool.{then_some}
use Rattle.std.specs.Char.{is_ascii_digit}
use Rattle.std.specs.List.{list_all}
use Rattle.std.specs.Option.{option_map}
use Rattle.text_words.specs.Numbers.{digits_after, decimal_in}
use Rattle.text_words.specs.inner.Numbers.{in_word}

pub digits_some : (word : List ℕ) → 0 < length word → decimal_in word ≡ digits_after 0 word
digits_some [] p = absurd (omega arith)
digits_some (b ∷ bs) p = refl

-- the byte at a place, before those behind it
here : (word : List ℕ) (i n : ℕ) → i < length word
    → digits_after n (drop i word) ≡ digits_after n (get_or word i 0 ∷ drop (i + 1) word)
here word i n l = at_drop_more (digits_after n) word i 0 l

one_more : (word : List ℕ) (i n : ℕ) → i < length word → is_ascii_digit (get_or word i 0) ≡ true
    → digits_after n (drop i word) ≡ digits_after (n * 10 + (get_or word i 0 - 48)) (drop (i + 1) word)
one_more word i n l d = here word i n l ∙ rw d refl

-- behind a number that 64 bits don't hold
large_stays : (n : ℕ) (bs : List ℕ) → 2 ^ 64 ≤ n
    → option_map in_word (digits_after n bs) ≡ then_some (list_all is_ascii_digit bs) None
large_stays n [] large = ap Some (rw (le-ltb n (2 ^ 64) large) refl)
large_stays n (b ∷ bs) large =
    elim (is_ascii_digit b) as
    (λ t. option_map in_word (cond t (digits_after (n * 10 + (b - 48)) bs) None)
    ≡ then_some (t && list_all is_ascii_digit bs) None) [
      | true ↦ large_stays (n * 10 + (b - 48)) bs (omega arith)
      | false ↦ refl
    ]

too_large : (n : ℕ) → in_word n ≡ None → 2 ^ 64 ≤ n
too_large n e = grind (arith, nat_tests)

pub large_read : (word : List ℕ) (i n : ℕ) (all : Bool) → 0 < length word → i < length word
    → digits_after 0 word ≡ digits_after n (drop i word) → is_ascii_digit (get_or word i 0) ≡ true
    → in_word (n * 10 + (get_or word i 0 - 48)) ≡ None → list_all is_ascii_digit (drop (i + 1) word) ≡ all
    → then_some all None ≡ option_map in_word (decimal_in word)
large_read word i n all some l read digit large e =
    let more = n * 10 + (get_or word i 0 - 48) in
    let rest = drop (i + 1) word in
    let written = digits_some word some ∙ read ∙ one_more word i n l digit in
    sym (ap (option_map in_word) written ∙ large_stays more rest (too_large more large) ∙ ap (λ t. then_some t None) e)
