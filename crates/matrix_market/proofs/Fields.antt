-- Fields of an entry line.
use Rattle.std.proofs.Common.{◌≡◌, ◌≤◌, ◌<◌, ◌+◌, ◌-◌, ◌*◌, ◌^◌, ◌%◌, ℕ, zero, suc, List, []}
use Rattle.std.proofs.Common.{◌∷◌, ◌++◌, Bool, true, false, cond, None, Some, length, take, drop, get_or, refl, sym, ap}
use Rattle.std.proofs.Common.{◌∙◌, subst, arith, length-append, length-drop, length-take, filter, append_assoc, nat_eq, lit<}
use Rattle.std.specs.Char.{is_ascii_digit}
use Rattle.std.specs.List.{slice_range, slice_split}
use Rattle.std.specs.Str.Lines.{lines, strip_carriage_return}
use Rattle.text_words.proofs.FirstLine.{is_feed, lines_of_cut}
use Rattle.std.proofs.Math.Seq.{drop-cons, take-append_seam}
use Rattle.std.proofs.lemmas.List.{get_or_at}
use Rattle.std.proofs.lemmas.List.Folds.{drop_split}
use Rattle.std.proofs.Math.Nat.{pow-le-pow_right}
use Rattle.std.proofs.lemmas.Bool.Decides.{nat_tests}
use Rattle.std.proofs.lemmas.Bool.{lt-ltb, le-leb}
use Rattle.matrix_market.specs.declared.usual.UsualLine.{UsualLine}
use Rattle.text_words.specs.Words.{words, is_blank, is_some_text}
use Rattle.text_words.specs.Numbers.{digits_after}
use Rattle.matrix_market.specs.Market.{is_comment, number, value, signed, Value, word_of, entry_words, WrittenEntry}
use Rattle.matrix_market.specs.inner.Usual.{Scanned, IsIndex, IsNumber, IsValue, IsLineEnd, IsEntryLine}

pow_mono : (a b : ℕ) → a ≤ b → 10 ^ a ≤ 10 ^ b
pow_mono a b h = pow-le-pow_right {n = 10} (lit< tt) h

-- digits that are few have the number itself
pub scanned_few : (ds : List ℕ) (n : ℕ) → Scanned ds n → length ds ≤ 19 → digits_after 0 ds ≡ Some n
scanned_few ds n s l =
    let p = pow_mono (length ds) 19 l in
    let below = s.below in
    let q : 10 ^ 19 < 2 ^ 64 = lit< tt in
    let small : s.whole < 2 ^ 64 = omega arith in
    let e : n ≡ s.whole = s.held ∙ (let k : s.whole % 2 ^ 64 ≡ s.whole = omega arith in k) in
    s.is ∙ ap Some (sym e)

pub length_range : (xs : List ℕ) (i j : ℕ) → i ≤ j → j ≤ length xs → length (slice_range xs i j) ≡ j - i
length_range xs i j a b = simp (length-take, length-drop) (omega arith)

-- every byte is one of those that a test refuses
abbrev pub Free : (ℕ → Bool) → List ℕ → Type 0
Free p [] = Unit {0}
Free p (b ∷ bs) = (p b ≡ false) × Free p bs

free_append : (p : ℕ → Bool) (xs ys : List ℕ) → Free p xs → Free p ys → Free p (xs ++ ys)
free_append p [] ys f g = g
free_append p (x ∷ xs) ys f g = (f.0, free_append p xs ys f.1 g)

free_digits : (p : ℕ → Bool) → ((b : ℕ) → is_ascii_digit b ≡ true → p b ≡ false) → (n m : ℕ) (ds : List ℕ)
    → digits_after n ds ≡ Some m → Free p ds
free_digits p h n m [] e = tt
free_digits p h n m (x ∷ ds) e =
    elim (is_ascii_digit x) as (λ t. is_ascii_digit x ≡ t → cond t (digits_after (n * 10 + (x - 48)) ds) None ≡ Some m → Free p (x ∷ ds)) [
      | true ↦ λ d g. (h x d, free_digits p h (n * 10 + (x - 48)) m ds g)
      | false ↦ λ d g. absurd (cc)
    ] refl e

split_at : (p : ℕ → Bool) (xs : List ℕ) (y : ℕ) (ys : List ℕ) → Free p xs → p y ≡ true
    → slice_split p (xs ++ y ∷ ys) ≡ xs ∷ slice_split p ys
split_at p [] y ys f e = rw e refl
split_at p (x ∷ xs) y ys f e = rw (f.0, split_at p xs y ys f.1 e) refl

split_none : (p : ℕ → Bool) (xs : List ℕ) → Free p xs → slice_split p xs ≡ xs ∷ []
split_none p [] f = refl
split_none p (x ∷ xs) f = rw (f.0, split_none p xs f.1) refl

keep_some : (a b c : List ℕ) → 0 < length a → 0 < length b → 0 < length c
    → filter is_some_text (a ∷ b ∷ c ∷ []) ≡ a ∷ b ∷ c ∷ []
keep_some [] b c h i j = absurd (omega arith)
keep_some (x ∷ a) [] c h i j = absurd (omega arith)
keep_some (x ∷ a) (y ∷ b) [] h i j = absurd (omega arith)
keep_some (x ∷ a) (y ∷ b) (z ∷ c) h i j = refl

-- three words with spaces between them
pub three_words : (a b c : List ℕ) → Free is_blank a → Free is_blank b → Free is_blank c → 0 < length a → 0 < length b
    → 0 < length c
    → words (a ++ 32 ∷ (b ++ 32 ∷ c)) ≡ a ∷ b ∷ c ∷ []
three_words a b c f g h i j k =
    ap (filter is_some_text) (split_at is_blank a 32 (b ++ 32 ∷ c) f refl ∙ ap (λ ws. a ∷ ws) (split_at is_blank b 32 c g refl ∙ ap (λ ws. b ∷ ws) (split_none is_blank c h))) ∙ keep_some a b c i j k

abbrev pub is_return : ℕ → Bool
is_return b = nat_eq b 13

free_at : (p : ℕ → Bool) (xs : List ℕ) (k : ℕ) → Free p xs → k < length xs → p (get_or xs k 0) ≡ false
free_at p [] k f h = absurd (omega arith)
free_at p (x ∷ xs) zero f h = f.0
free_at p (x ∷ xs) (suc k) f h = free_at p xs k f.1 (omega arith)

keeps_returns : (xs : List ℕ) → Free is_return xs → strip_carriage_return xs ≡ xs
keeps_returns [] f = refl
keeps_returns (x ∷ xs) f = rw (free_at is_return (x ∷ xs) (length (x ∷ xs) - 1) f (omega arith)) refl

-- the line before an LF
pub lines_at : (l rest : List ℕ) → Free is_feed l → Free is_return l → lines (l ++ 10 ∷ rest) ≡ l ∷ lines rest
lines_at l rest f g =
    lines_of_cut (l ++ 10 ∷ rest) l rest (split_at is_feed l 10 rest f refl) ∙ ap (λ x. x ∷ lines rest) (keeps_returns l g)

-- a space is not the last LF
pub not_last : (text : List ℕ) (to last : ℕ) → get_or text last 0 ≡ 10 → get_or text to 0 ≡ 32 → to ≡ last → ⊥
not_last text to last a b e = let s : get_or text last 0 ≡ 32 = subst (λ (k : ℕ). get_or text k 0 ≡ 32) e b in omega arith

pub range_cons : (xs : List ℕ) (i j : ℕ) → i < j → j ≤ length xs
    → slice_range xs i j ≡ get_or xs i 0 ∷ slice_range xs (i + 1) j
range_cons xs i j a b =
    let e : j - i ≡ suc (j - (i + 1)) = omega arith in
    let f : drop i xs ≡ get_or xs i 0 ∷ drop (i + 1) xs = drop-cons xs i 0 (omega arith) ∙ ap (λ k. get_or xs i 0 ∷ drop k xs) (let q : suc i ≡ i + 1 = omega arith in q) in
    ap (λ k. take k (drop i xs)) e ∙ ap (take (suc (j - (i + 1)))) f

-- a value without a sign
pub plain_value : (text : List ℕ) (from to m : ℕ) → from < to → to ≤ from + 19 → to ≤ length text
    → Scanned (slice_range text from to) m → m < 2 ^ 63 → IsValue text from to m
plain_value text from to m a b l s h =
    let k = length_range text from to (omega arith) l in
    record {
      ds = slice_range text from to;
      m = m;
      negative = false;
      some = a;
      few = omega arith;
      cut = refl;
      digit = omega arith;
      is = scanned_few _ m s (omega arith);
      fits = lt-ltb m (2 ^ 63) h;
      word = refl;
    }

negated : (m n : ℕ) → m ≤ 2 ^ 63 → n ≡ (2 ^ 64 - m) % 2 ^ 64 → word_of (true, m) ≡ n
negated zero n h e = let z : 0 ≡ n = omega arith in z
negated (suc m) n h e = let z : 2 ^ 64 - suc m ≡ n = omega arith in rw (lt-ltb 0 (suc m) (omega arith)) z

-- a value behind a minus
pub minus_value : (text : List ℕ) (from to m n : ℕ) → from + 1 < to → to ≤ from + 20 → to ≤ length text
    → get_or text from 0 ≡ 45 → Scanned (slice_range text (from + 1) to) m → m ≤ 2 ^ 63 → n ≡ (2 ^ 64 - m) % 2 ^ 64
    → IsValue text from to n
minus_value text from to m n a b l g s h e =
    let k = length_range text (from + 1) to (omega arith) l in
    record {
      ds = slice_range text (from + 1) to;
      m = m;
      negative = true;
      some = omega arith;
      few = b;
      cut = range_cons text from to (omega arith) l ∙ ap (λ x. x ∷ slice_range text (from + 1) to) g;
      digit = omega arith;
      is = scanned_few _ m s (omega arith);
      fits = le-leb m (2 ^ 63) h;
      word = negated m n h e;
    }

-- ---- the whole line

digit_blank : (b : ℕ) → is_ascii_digit b ≡ true → is_blank b ≡ false
digit_blank b d = grind (arith, nat_tests)

digit_feed : (b : ℕ) → is_ascii_digit b ≡ true → is_feed b ≡ false
digit_feed b d = grind (arith, nat_tests)

digit_return : (b : ℕ) → is_ascii_digit b ≡ true → is_return b ≡ false
digit_return b d = grind (arith, nat_tests)

digit_sign : (b : ℕ) → is_ascii_digit b ≡ true
    → (nat_eq b 43 ≡ false) × ((nat_eq b 45 ≡ false) × (nat_eq b 37 ≡ false))
digit_sign b d = let x : nat_eq b 43 ≡ false = grind (arith, nat_tests) in let y : nat_eq b 45 ≡ false = grind (arith, nat_tests) in let z : nat_eq b 37 ≡ false = grind (arith, nat_tests) in (x, (y, z))

first_digit : (n m b : ℕ) (ds : List ℕ) → digits_after n (b ∷ ds) ≡ Some m → is_ascii_digit b ≡ true
first_digit n m b ds e =
    elim (is_ascii_digit b) as (λ t. cond t (digits_after (n * 10 + (b - 48)) ds) None ≡ Some m → t ≡ true) [
      | true ↦ λ g. refl
      | false ↦ λ g. absurd (cc)
    ] e

pub number_of : (ds : List ℕ) (n : ℕ) → 0 < length ds → digits_after 0 ds ≡ Some n → number ds ≡ Some n
number_of [] n l e = absurd (omega arith)
number_of (b ∷ ds) n l e = rw ((digit_sign b (first_digit 0 n b ds e)).0) e

pub value_of : (negative : Bool) (ds : List ℕ) (m : ℕ) → 0 < length ds → digits_after 0 ds ≡ Some m
    → value (cond negative (45 ∷ ds) ds) ≡ Some (negative, m)
value_of negative [] m l e = absurd (omega arith)
value_of true (b ∷ ds) m l e = ap (signed true) e
value_of false (b ∷ ds) m l e = let s = digit_sign b (first_digit 0 m b ds e) in rw (s.1.0, s.0) (ap (signed false) e)

free_signed : (p : ℕ → Bool) → ((b : ℕ) → is_ascii_digit b ≡ true → p b ≡ false) → p 45 ≡ false
    → (negative : Bool) (ds : List ℕ) (m : ℕ) → digits_after 0 ds ≡ Some m → Free p (cond negative (45 ∷ ds) ds)
free_signed p h g true ds m e = (g, free_digits p h 0 m ds e)
free_signed p h g false ds m e = free_digits p h 0 m ds e

some_signed : (negative : Bool) (ds : List ℕ) → 0 < length ds → 0 < length (cond negative (45 ∷ ds) ds)
some_signed true ds h = omega arith
some_signed false ds h = h

no_comment : (a : List ℕ) (n : ℕ) (ws : List (List ℕ)) → 0 < length a → digits_after 0 a ≡ Some n
    → is_comment (a ∷ ws) ≡ false
no_comment [] n ws l e = absurd (omega arith)
no_comment (b ∷ a) n ws l e = (digit_sign b (first_digit 0 n b a e)).1.1

free_line : (p : ℕ → Bool) → ((b : ℕ) → is_ascii_digit b ≡ true → p b ≡ false) → p 45 ≡ false → p 32 ≡ false
    → (a b ds : List ℕ) (i j m : ℕ) (negative : Bool) → digits_after 0 a ≡ Some i → digits_after 0 b ≡ Some j → digits_after 0 ds ≡ Some m → Free p (a ++ 32 ∷ (b ++ 32 ∷ cond negative (45 ∷ ds) ds))
free_line p h g s a b ds i j m negative x y z =
    free_append p a (32 ∷ (b ++ 32 ∷ cond negative (45 ∷ ds) ds)) (free_digits p h 0 i a x) (s, free_append p b (32 ∷ cond negative (45 ∷ ds) ds) (free_digits p h 0 j b y) (s, free_signed p h g negative ds m z))

abbrev entry : ℕ → ℕ → Value → WrittenEntry
entry i j v = record { row = i; column = j; value = v }

entry_three : (a b c : List ℕ) (i j : ℕ) (v : Value) → number a ≡ Some i → number b ≡ Some j → value c ≡ Some v → entry_words false (a ∷ b ∷ c ∷ []) ≡ Some (record { row = i; column = j; value = v })
entry_three a b c i j v x y z = rw (x, y, z) refl

same_entry : (i j k n : ℕ) (v : Value) → i ≡ k → j ≡ n → Some (entry i j v) ≡ Some (entry k n v)
same_entry i j k n v e f = cc

-- a part, a byte and what follows it
cut_at : (xs : List ℕ) (i j b : ℕ) → i ≤ j → j < length xs → get_or xs j 0 ≡ b
    → drop i xs ≡ slice_range xs i j ++ b ∷ drop (j + 1) xs
cut_at xs i j b l h e =
    drop_split xs i j l ∙ ap (λ ys. slice_range xs i j ++ ys) (drop-cons xs j 0 h ∙ (ap (λ x. x ∷ drop (suc j) xs) e ∙ ap (λ k. b ∷ drop k xs) (let q : suc j ≡ j + 1 = omega arith in q)))

ends_with_return : (l : List ℕ) → strip_carriage_return (l ++ 13 ∷ []) ≡ l
ends_with_return l =
    let n : length (l ++ 13 ∷ []) - 1 ≡ length l = simp length-append (omega arith) in
    let here : get_or (l ++ 13 ∷ []) (length (l ++ 13 ∷ []) - 1) 0 ≡ 13 = ap (λ k. get_or (l ++ 13 ∷ []) k 0) n ∙ get_or_at l 13 [] 0 (length l) refl in
    rw here (ap (λ k. take k (l ++ 13 ∷ [])) n ∙ take-append_seam l (13 ∷ []))

-- the line before CR and LF
lines_return : (l rest : List ℕ) → Free is_feed l → lines (l ++ 13 ∷ 10 ∷ rest) ≡ l ∷ lines rest
lines_return l rest f =
    let joined : l ++ 13 ∷ 10 ∷ rest ≡ (l ++ 13 ∷ []) ++ 10 ∷ rest = sym (append_assoc l (13 ∷ []) (10 ∷ rest)) in
    let cut = split_at is_feed (l ++ 13 ∷ []) 10 rest (free_append is_feed l (13 ∷ []) f (refl, tt)) refl in
    ap lines joined ∙ lines_of_cut ((l ++ 13 ∷ []) ++ 10 ∷ rest) (l ++ 13 ∷ []) rest cut
    ∙ ap (λ x. x ∷ lines rest) (ends_with_return l)

lines_end : (returns : Bool) (text l : List ℕ) (end next : ℕ) → get_or text end 0 ≡ cond returns 13 10
    → get_or text (next - 1) 0 ≡ 10 → next ≡ end + cond returns 2 1 → next ≤ length text → Free is_feed l
    → Free is_return l
    → lines (l ++ drop end text) ≡ l ∷ lines (drop next text)
lines_end false text l end next h d n w f g =
    ap (λ xs. lines (l ++ xs)) (drop-cons text end 0 (omega arith) ∙ (ap (λ x. x ∷ drop (suc end) text) h ∙ ap (λ k. 10 ∷ drop k text) (let q : suc end ≡ next = omega arith in q))) ∙ lines_at l (drop next text) f g
lines_end true text l end next h d n w f g =
    let feed : get_or text (suc end) 0 ≡ 10 = ap (λ k. get_or text k 0) (let q : suc end ≡ next - 1 = omega arith in q) ∙ d in
    let two : drop (suc end) text ≡ 10 ∷ drop next text = drop-cons text (suc end) 0 (omega arith) ∙ (ap (λ x. x ∷ drop (suc (suc end)) text) feed ∙ ap (λ k. 10 ∷ drop k text) (let q : suc (suc end) ≡ next = omega arith in q)) in
    ap (λ xs. lines (l ++ xs)) (drop-cons text end 0 (omega arith) ∙ (ap (λ x. x ∷ drop (suc end) text) h ∙ ap (λ xs. 13 ∷ xs) two)) ∙ lines_return l (drop next text) f

module _ (text : List ℕ) (at p q end i j w : ℕ) (within : end < length text) (row : IsIndex text at p i) (column : IsIndex text (p + 1) q j) (val : IsValue text (q + 1) end w) (next : ℕ) (stop : IsLineEnd text end next) where
  a : List ℕ
  a = slice_range text at p

  b : List ℕ
  b = slice_range text (p + 1) q

  c : List ℕ
  c = cond val.negative (45 ∷ val.ds) val.ds

  whole : List ℕ
  whole = a ++ 32 ∷ (b ++ 32 ∷ c)

  cut : drop at text ≡ whole ++ drop end text
  unfolding whole a b c
  cut =
      let r = row.number.some in let s = column.number.some in let t = val.some in
      let one = cut_at text at p 32 (omega arith) (omega arith) row.space in
      let two = cut_at text (p + 1) q 32 (omega arith) (omega arith) column.space in
      let three = drop_split text (q + 1) end (omega arith) in
      one ∙ (ap (λ ys. slice_range text at p ++ 32 ∷ ys) (two ∙ ap (λ ys. slice_range text (p + 1) q ++ 32 ∷ ys) (three ∙ ap (λ ys. ys ++ drop end text) val.cut)) ∙ simp append_assoc)

  pub line_found : (l : UsualLine) → l.row ≡ i → l.column ≡ j → l.word ≡ w → l.next ≡ next
      → IsEntryLine false (drop at text) l (drop l.next text)
  unfolding whole a b c
  line_found l ri ci wi ni =
      let r = row.number.some in let s = column.number.some in let t = val.some in let few = row.number.few in let few2 = column.number.few in let few3 = val.few in
      let la : length a ≡ p - at = length_range text at p (omega arith) (omega arith) in
      let lb : length b ≡ q - (p + 1) = length_range text (p + 1) q (omega arith) (omega arith) in
      let lc : length c ≡ end - (q + 1) = sym (ap length val.cut) ∙ length_range text (q + 1) end (omega arith) (omega arith) in
      let wa : words whole ≡ a ∷ b ∷ c ∷ [] = three_words a b c (free_digits is_blank digit_blank 0 i a row.number.is) (free_digits is_blank digit_blank 0 j b column.number.is) (free_signed is_blank digit_blank refl val.negative val.ds val.m val.is)
      (omega arith) (omega arith) (some_signed val.negative val.ds val.digit) in
      record {
        line = whole;
        value = (val.negative, val.m);
        first = ap lines cut ∙ (lines_end stop.returns text whole end next stop.here stop.feed stop.next_is stop.within (free_line is_feed digit_feed refl refl a b val.ds i j val.m val.negative row.number.is column.number.is val.is) (free_line is_return digit_return refl refl a b val.ds i j val.m val.negative row.number.is column.number.is val.is)
            ∙ ap (λ k. whole ∷ lines (drop k text)) (sym ni));
        short = simp length-append (omega arith);
        content = ap is_comment wa ∙ no_comment a i (b ∷ c ∷ []) (omega arith) row.number.is;
        entry = ap (entry_words false) wa ∙ (entry_three a b c i j (val.negative, val.m) (number_of a i (omega arith) row.number.is) (number_of b j (omega arith) column.number.is) (value_of val.negative val.ds val.m val.digit val.is)
            ∙ same_entry i j l.row l.column (val.negative, val.m) (sym ri) (sym ci));
        fits = val.fits;
        word = val.word ∙ sym wi;
        small = (let x = row.number.small in omega arith, let x = column.number.small in omega arith);
      }

-- the next line is later
pub end_later : (text : List ℕ) (at next : ℕ) → IsLineEnd text at next → at < next
end_later text at next h =
    elim h.returns as (λ t. next ≡ at + cond t 2 1 → at < next) [
      | true ↦ λ e. omega arith
      | false ↦ λ e. omega arith
    ] h.next_is

-- ---- a line without a value

keep_both : (a b : List ℕ) → 0 < length a → 0 < length b → filter is_some_text (a ∷ b ∷ []) ≡ a ∷ b ∷ []
keep_both [] b h i = absurd (omega arith)
keep_both (x ∷ a) [] h i = absurd (omega arith)
keep_both (x ∷ a) (y ∷ b) h i = refl

-- two words with a space between them
two_words : (a b : List ℕ) → Free is_blank a → Free is_blank b → 0 < length a → 0 < length b
    → words (a ++ 32 ∷ b) ≡ a ∷ b ∷ []
two_words a b f g i j = ap (filter is_some_text) (split_at is_blank a 32 b f refl ∙ ap (λ ws. a ∷ ws) (split_none is_blank b g)) ∙ keep_both a b i j

free_pair : (p : ℕ → Bool) → ((b : ℕ) → is_ascii_digit b ≡ true → p b ≡ false) → p 32 ≡ false
    → (a b : List ℕ) (i j : ℕ) → digits_after 0 a ≡ Some i → digits_after 0 b ≡ Some j → Free p (a ++ 32 ∷ b)
free_pair p h s a b i j x y = free_append p a (32 ∷ b) (free_digits p h 0 i a x) (s, free_digits p h 0 j b y)

entry_two : (a b : List ℕ) (i j : ℕ) → number a ≡ Some i → number b ≡ Some j → entry_words true (a ∷ b ∷ []) ≡ Some (record { row = i; column = j; value = (false, 1) })
entry_two a b i j x y = rw (x, y) refl

module _ (text : List ℕ) (at p end i j : ℕ) (within : end < length text) (row : IsIndex text at p i) (column : IsNumber text (p + 1) end j) (next : ℕ) (stop : IsLineEnd text end next) where
  left : List ℕ
  left = slice_range text at p

  right : List ℕ
  right = slice_range text (p + 1) end

  pair : List ℕ
  pair = left ++ 32 ∷ right

  pair_cut : drop at text ≡ pair ++ drop end text
  unfolding pair left right
  pair_cut =
      let r = row.number.some in let s = column.some in
      let one = cut_at text at p 32 (omega arith) (omega arith) row.space in
      let two = drop_split text (p + 1) end (omega arith) in
      one ∙ (ap (λ ys. slice_range text at p ++ 32 ∷ ys) two ∙ simp append_assoc)

  pub pattern_found : (l : UsualLine) → l.row ≡ i → l.column ≡ j → l.word ≡ 1 → l.next ≡ next
      → IsEntryLine true (drop at text) l (drop l.next text)
  unfolding pair left right
  pattern_found l ri ci wi ni =
      let r = row.number.some in let s = column.some in let few = row.number.few in let few2 = column.few in
      let la : length left ≡ p - at = length_range text at p (omega arith) (omega arith) in
      let lb : length right ≡ end - (p + 1) = length_range text (p + 1) end (omega arith) (omega arith) in
      let wa : words pair ≡ left ∷ right ∷ [] = two_words left right (free_digits is_blank digit_blank 0 i left row.number.is) (free_digits is_blank digit_blank 0 j right column.is) (omega arith) (omega arith) in
      record {
        line = pair;
        value = (false, 1);
        first = ap lines pair_cut ∙ (lines_end stop.returns text pair end next stop.here stop.feed stop.next_is stop.within (free_pair is_feed digit_feed refl left right i j row.number.is column.is) (free_pair is_return digit_return refl left right i j row.number.is column.is)
            ∙ ap (λ k. pair ∷ lines (drop k text)) (sym ni));
        short = simp length-append (omega arith);
        content = ap is_comment wa ∙ no_comment left i (right ∷ []) (omega arith) row.number.is;
        entry = ap (entry_words true) wa ∙ (entry_two left right i j (number_of left i (omega arith) row.number.is) (number_of right j (omega arith) column.is)
            ∙ same_entry i j l.row l.column (false, 1) (sym ri) (sym ci));
        fits = refl;
        word = sym wi;
        small = (let x = row.number.small in omega arith, let x = column.small in omega arith);
      }
