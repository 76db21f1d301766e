-- The canonical text of a matrix is a text of it.
use Rattle.std.proofs.Common.{◌≡◌, ◌≤◌, ◌<◌, ◌+◌, ◌-◌, ◌%◌, ◌^◌, ℕ, zero, suc}
use Rattle.std.proofs.Common.{List, [], ◌∷◌, ◌++◌, Bool, true, false, ◌&&◌, cond, nat_lt, nat_eq, Some, length}
use Rattle.std.proofs.Common.{get_or, refl, ap, ◌∙◌, arith, ⊎_elim, lit<}
use Rattle.std.proofs.lemmas.Bool.{lt-ltb, le-ltb, cases_lt}
use Rattle.std.proofs.lemmas.Bool.Decides.{nat_tests}
use Rattle.std.proofs.lemmas.Fmt.{decimal_by_steps, decimal_nonempty, length-decimal-le}
use Rattle.std.specs.List.{AllByRecursion, slice_split}
use Rattle.std.specs.Char.{is_ascii_digit}
use Rattle.std.specs.Fmt.{decimal}
use Rattle.std.specs.Str.Lines.{lines, strip_carriage_return}
use Rattle.text_words.proofs.FirstLine.{is_feed, lines_of_cut}
use Rattle.matrix_market.specs.CanonicalText.{value_text}
use Rattle.text_words.specs.Words.{words, is_blank, is_some_text}
use Rattle.text_words.specs.Numbers.{digits_after}
use Rattle.matrix_market.specs.Market.{number, value, Value, is_word, word_of, signed}
use Rattle.text_words.proofs.Written.{is_digit, decimal_read, decimal_written}

-- ---- numbers

-- digits alone
abbrev pub AreDigits : List ℕ → Type 0
AreDigits ds = AllByRecursion (λ b. is_ascii_digit b ≡ true) ds

all_append : (xs ys : List ℕ) → AreDigits xs → AreDigits ys → AreDigits (xs ++ ys)
all_append [] ys p q = q
all_append (x ∷ xs) ys p q = (p.0, all_append xs ys p.1 q)

decimal_digits : (n : ℕ) → n < 2 ^ 64 → AreDigits (decimal n)
decimal_digits n h =
    decimal_by_steps (λ _ ds. AreDigits ds) (λ m l. (is_digit m l, tt))
    (λ m ds l p. all_append ds _ p (is_digit (m % 10) (omega arith), tt)) n h

-- a field without signs
number_of : (ds : List ℕ) → AreDigits ds → 0 < length ds → number ds ≡ digits_after 0 ds
number_of [] p l = absurd (omega arith)
number_of (b ∷ bs) p l =
    let plus : nat_eq b 43 ≡ false = grind (arith, nat_tests, p.0) in
    rw plus refl

pub number-decimal : (n : ℕ) → n < 2 ^ 64 → number (decimal n) ≡ Some n
number-decimal n h = number_of (decimal n) (decimal_digits n h) (decimal_nonempty n h) ∙ decimal_read n h

plain_value : (ds : List ℕ) → AreDigits ds → 0 < length ds → value ds ≡ signed false (number ds)
plain_value [] p l = absurd (omega arith)
plain_value (b ∷ bs) p l = let minus : nat_eq b 45 ≡ false = grind (arith, nat_tests, p.0) in rw minus refl

-- the value that stands for a word
abbrev pub value_for : ℕ → Value
value_for w = cond (nat_lt w (2 ^ 63)) (false, w) (true, 2 ^ 64 - w)

pub value_text_low : (w : ℕ) → w < 2 ^ 63 → value_text w ≡ decimal w
value_text_low w h = rw (lt-ltb w (2 ^ 63) h) refl

pub value_text_high : (w : ℕ) → 2 ^ 63 ≤ w → w < 2 ^ 64 → value_text w ≡ 45 ∷ decimal (2 ^ 64 - w)
value_text_high w h l =
    let e : suc (2 ^ 64 - suc w) ≡ 2 ^ 64 - w = omega arith in
    rw (le-ltb w (2 ^ 63) h) (ap (λ n. 45 ∷ decimal n) e)

pub value-value_text : (w : ℕ) → w < 2 ^ 64 → value (value_text w) ≡ Some (value_for w)
value-value_text w h =
    ⊎_elim
    (λ (a : w < 2 ^ 63).
    ap value (value_text_low w a) ∙ plain_value (decimal w) (decimal_digits w h) (decimal_nonempty w h) ∙ ap (signed false) (number-decimal w h)
    ∙ rw (lt-ltb w (2 ^ 63) a) refl)
    (λ (a : 2 ^ 63 ≤ w).
    let m : 2 ^ 64 - w < 2 ^ 64 = omega arith in
    ap value (value_text_high w a h) ∙ ap (signed true) (decimal_written (2 ^ 64 - w) m)
    ∙ rw (le-ltb w (2 ^ 63) a) refl)
    (cases_lt w (2 ^ 63))

pub value_for-is_word : (w : ℕ) → w < 2 ^ 64 → is_word (value_for w) ≡ true
value_for-is_word w h =
    elim (nat_lt w (2 ^ 63)) as (λ t. nat_lt w (2 ^ 63) ≡ t → is_word (cond t (false, w) (true, 2 ^ 64 - w)) ≡ true) [
      | true ↦ λ e. e
      | false ↦ λ e. grind (arith, nat_tests)
    ] refl

pub word_of-value_for : (w : ℕ) → w < 2 ^ 64 → word_of (value_for w) ≡ w
word_of-value_for w h =
    elim (nat_lt w (2 ^ 63)) as (λ t. nat_lt w (2 ^ 63) ≡ t → word_of (cond t (false, w) (true, 2 ^ 64 - w)) ≡ w) [
      | true ↦ λ e. refl
      | false ↦ λ e. let some : nat_lt 0 (2 ^ 64 - w) ≡ true = lt-ltb 0 (2 ^ 64 - w) (omega arith) in rw some (omega arith)
    ] refl

-- ---- words and lines

abbrev pub all_above : ℕ → List ℕ → Bool
all_above n [] = true
all_above n (b ∷ bs) = nat_lt n b && all_above n bs

both_true : (a b : Bool) → (a && b) ≡ true → (a ≡ true) × (b ≡ true)
both_true true b h = (refl, h)
both_true false b h = absurd (cc)

head_above : (n b : ℕ) (bs : List ℕ) → all_above n (b ∷ bs) ≡ true → (nat_lt n b ≡ true) × (all_above n bs ≡ true)
head_above n b bs h = both_true (nat_lt n b) (all_above n bs) h

above_append : (n : ℕ) (xs ys : List ℕ) → all_above n xs ≡ true → all_above n ys ≡ true
    → all_above n (xs ++ ys) ≡ true
above_append n [] ys p q = q
above_append n (x ∷ xs) ys p q = let t = head_above n x xs p in rw (t.0, above_append n xs ys t.1 q) refl

above_less : (m n : ℕ) (xs : List ℕ) → m ≤ n → all_above n xs ≡ true → all_above m xs ≡ true
above_less m n [] l p = refl
above_less m n (x ∷ xs) l p = let t = head_above n x xs p in let f : nat_lt m x ≡ true = grind (arith, nat_tests, t.0) in rw (f, above_less m n xs l t.1) refl

pub decimal_above : (n : ℕ) → n < 2 ^ 64 → all_above 32 (decimal n) ≡ true
decimal_above n h =
    decimal_by_steps (λ _ ds. all_above 32 ds ≡ true)
    (λ m l. rw (lt-ltb 32 (48 + m) (omega arith)) refl)
    (λ m ds l p. above_append 32 ds _ p (rw (lt-ltb 32 (48 + m % 10) (omega arith)) refl)) n h

pub value_above : (w : ℕ) → w < 2 ^ 64 → all_above 32 (value_text w) ≡ true
value_above w h =
    ⊎_elim
    (λ (a : w < 2 ^ 63). ap (all_above 32) (value_text_low w a) ∙ decimal_above w h)
    (λ (a : 2 ^ 63 ≤ w). ap (all_above 32) (value_text_high w a h) ∙ decimal_above (2 ^ 64 - w) (omega arith))
    (cases_lt w (2 ^ 63))

no_blank : (b : ℕ) → nat_lt 32 b ≡ true → is_blank b ≡ false
no_blank b h = grind (arith, nat_tests)

split_before : (a rest : List ℕ) → all_above 32 a ≡ true
    → slice_split is_blank (a ++ 32 ∷ rest) ≡ a ∷ slice_split is_blank rest
split_before [] rest h = refl
split_before (b ∷ bs) rest h = let t = head_above 32 b bs h in rw (no_blank b t.0, split_before bs rest t.1) refl

split_whole : (a : List ℕ) → all_above 32 a ≡ true → slice_split is_blank a ≡ a ∷ []
split_whole [] h = refl
split_whole (b ∷ bs) h = let t = head_above 32 b bs h in rw (no_blank b t.0, split_whole bs t.1) refl

some_text : (a : List ℕ) → 0 < length a → is_some_text a ≡ true
some_text [] l = absurd (omega arith)
some_text (b ∷ bs) l = refl

words_before : (a rest : List ℕ) → 0 < length a → all_above 32 a ≡ true → words (a ++ 32 ∷ rest) ≡ a ∷ words rest
words_before a rest l h = rw (split_before a rest h, some_text a l) refl

words_whole : (a : List ℕ) → 0 < length a → all_above 32 a ≡ true → words a ≡ a ∷ []
words_whole a l h = rw (split_whole a h, some_text a l) refl

-- three fields with a space between them
abbrev pub three : List ℕ → List ℕ → List ℕ → List ℕ
three a b c = a ++ 32 ∷ (b ++ 32 ∷ c)

pub record AreFields (a b c : List ℕ) : Type 0 where
  pub a_some : 0 < length a
  pub b_some : 0 < length b
  pub c_some : 0 < length c
  pub a_above : all_above 32 a ≡ true
  pub b_above : all_above 32 b ≡ true
  pub c_above : all_above 32 c ≡ true

pub words_three : (a b c : List ℕ) → AreFields a b c → words (three a b c) ≡ a ∷ b ∷ c ∷ []
words_three a b c h =
    words_before a (b ++ 32 ∷ c) h.a_some h.a_above ∙ ap (λ ws. a ∷ ws) (words_before b c h.b_some h.b_above ∙ ap (λ ws. b ∷ ws) (words_whole c h.c_some h.c_above))

three_above : (a b c : List ℕ) → AreFields a b c → all_above 31 (three a b c) ≡ true
three_above a b c h =
    above_append 31 a (32 ∷ (b ++ 32 ∷ c)) (above_less 31 32 a (omega arith) h.a_above)
    (above_append 31 b (32 ∷ c) (above_less 31 32 b (omega arith) h.b_above) (above_less 31 32 c (omega arith) h.c_above))

no_feed : (b : ℕ) → nat_lt 31 b ≡ true → nat_eq b 10 ≡ false
no_feed b h = grind (arith, nat_tests)

parts_before : (a rest : List ℕ) → all_above 31 a ≡ true
    → slice_split is_feed (a ++ 10 ∷ rest) ≡ a ∷ slice_split is_feed rest
parts_before [] rest h = refl
parts_before (b ∷ bs) rest h = let t = head_above 31 b bs h in rw (no_feed b t.0, parts_before bs rest t.1) refl

no_return : (a : List ℕ) (k : ℕ) → all_above 31 a ≡ true → nat_eq (get_or a k 0) 13 ≡ false
no_return [] k h = refl
no_return (b ∷ bs) zero h = let t = (head_above 31 b bs h).0 in grind (arith, nat_tests)
no_return (b ∷ bs) (suc k) h = no_return bs k (head_above 31 b bs h).1

strip_none : (a : List ℕ) → all_above 31 a ≡ true → strip_carriage_return a ≡ a
strip_none a h = rw (no_return a (length a - 1) h) refl

pub lines_before : (a rest : List ℕ) → all_above 31 a ≡ true → lines (a ++ 10 ∷ rest) ≡ a ∷ lines rest
lines_before a rest h =
    lines_of_cut (a ++ 10 ∷ rest) a rest (parts_before a rest h) ∙ ap (λ l. l ∷ lines rest) (strip_none a h)

pub lines_three : (a b c rest : List ℕ) → AreFields a b c → lines (three a b c ++ 10 ∷ rest) ≡ three a b c ∷ lines rest
lines_three a b c rest h = lines_before (three a b c) rest (three_above a b c h)

-- ---- what a field begins with, and how long it is

abbrev pub starts_with_digit : List ℕ → Bool
starts_with_digit [] = false
starts_with_digit (b ∷ bs) = is_ascii_digit b

first_digit : (ds : List ℕ) → AreDigits ds → 0 < length ds → starts_with_digit ds ≡ true
first_digit [] p l = absurd (omega arith)
first_digit (b ∷ bs) p l = p.0

pub decimal_starts : (n : ℕ) → n < 2 ^ 64 → starts_with_digit (decimal n) ≡ true
decimal_starts n h = first_digit (decimal n) (decimal_digits n h) (decimal_nonempty n h)

pub value_some : (w : ℕ) → w < 2 ^ 64 → 0 < length (value_text w)
value_some w h =
    ⊎_elim
    (λ (a : w < 2 ^ 63). let e = ap length (value_text_low w a) in let l = decimal_nonempty w h in omega arith)
    (λ (a : 2 ^ 63 ≤ w). let e = ap length (value_text_high w a h) in omega arith)
    (cases_lt w (2 ^ 63))

pub value_length : (w : ℕ) → w < 2 ^ 64 → length (value_text w) ≤ 21
value_length w h =
    let q : 2 ^ 64 < 10 ^ 20 = lit< tt in
    ⊎_elim
    (λ (a : w < 2 ^ 63). let e = ap length (value_text_low w a) in let l = length-decimal-le 20 w (omega arith) (omega arith) h in omega arith)
    (λ (a : 2 ^ 63 ≤ w). let e = ap length (value_text_high w a h) in let l = length-decimal-le 20 (2 ^ 64 - w) (omega arith) (omega arith) (omega arith) in omega arith)
    (cases_lt w (2 ^ 63))
