-- Words that count where their bit is set: what is seen of each column, when one is given, and when all bits are cleared.
use Rattle.std.proofs.Common.{◌≡◌, ◌≢◌, ℕ, zero, suc, ◌+◌, ◌/◌, ◌%◌, ◌<◌, ◌≤◌, if◌then◌else◌, true, List, [], ◌∷◌, ◌++◌, Option, None, Some, is_some, length, get_or, set, take, replicate, refl, sym, ap, ◌∙◌, subst, inl, inr, arith, eqb, eq-eqb, get_or-set_same, get_or-set_other}
use Rattle.std.proofs.Math.ListN.{length-set}
use Rattle.std.proofs.lemmas.Bool.{ne_eqb, cases_lt}
use Rattle.std.proofs.lemmas.Bool.Decides.{eqb_tells}
use Rattle.std.proofs.lemmas.List.{get_or_past, ext_get_or, take_all}
use Rattle.std.proofs.lemmas.Option.{none-some}
use borrow.Author.Tests.{clash}
use Rattle.std.proofs.lemmas.Nat.Bits.{bit_at-lt}
use Rattle.std.specs.Int.{bit_at}
use Rattle.row_product.specs.inner.DenseSums.{bit_of, word_at, words_of, AreClear}
use Rattle.row_product.specs.inner.Sums.{slot}

-- ---- what is seen of a column

pub word_set : (bits words : List ℕ) (j : ℕ) → bit_of bits j ≡ 1 → word_at bits words j ≡ Some (get_or words j 0)
word_set bits words j e = ap (λ b. if b then Some (get_or words j 0) else None) (eq-eqb (bit_of bits j) 1 e)

pub word_clear : (bits words : List ℕ) (j : ℕ) → bit_of bits j ≢ 1 → word_at bits words j ≡ None
word_clear bits words j e = ap (λ b. if b then Some (get_or words j 0) else None) (ne_eqb (bit_of bits j) 1 e)

pub bit_from : (bits words : List ℕ) (j v : ℕ) → word_at bits words j ≡ Some v → bit_of bits j ≡ 1
bit_from bits words j v e = elim (eqb_tells (bit_of bits j) 1) [
  | inl d ↦ d.1
  | inr d ↦ absurd (none-some v (sym (word_clear bits words j d.1) ∙ e))
]

pub bit_from_none : (bits words : List ℕ) (j : ℕ) → word_at bits words j ≡ None → bit_of bits j ≡ 0
bit_from_none bits words j e = elim (eqb_tells (bit_of bits j) 1) [
  | inl d ↦ absurd (none-some (get_or words j 0) (sym e ∙ word_set bits words j d.1))
  | inr d ↦ let n = d.1 in let l = bit_at-lt (get_or bits (j / 64) 0) (j % 64) in omega (arith, n, l)
]

pub length_words : (bits words : List ℕ) (first n : ℕ) → length (words_of bits words first n) ≡ n
length_words bits words first zero = refl
length_words bits words first (suc n) = ap suc (length_words bits words (suc first) n)

word_from : (bits words : List ℕ) (first n k : ℕ) → k < n → slot (words_of bits words first n) k ≡ word_at bits words (first + k)
word_from bits words first zero k l = absurd (omega (arith, l))
word_from bits words first (suc n) zero l = ap (word_at bits words) (let e : first ≡ first + 0 = omega arith in e)
word_from bits words first (suc n) (suc k) l =
    word_from bits words (suc first) n k (omega (arith, l))
    ∙ ap (word_at bits words) (let e : suc first + k ≡ first + suc k = omega arith in e)

pub word_in : (bits words : List ℕ) (n j : ℕ) → j < n → slot (words_of bits words 0 n) j ≡ word_at bits words j
word_in bits words n j l = word_from bits words 0 n j l ∙ ap (word_at bits words) (let e : 0 + j ≡ j = omega arith in e)

pub word_out : (bits words : List ℕ) (n j : ℕ) → n ≤ j → slot (words_of bits words 0 n) j ≡ None
word_out bits words n j l =
    get_or_past (words_of bits words 0 n) j None (let m = length_words bits words 0 n in omega (arith, m, l))

pub marked_words : (bits words : List ℕ) (n j v : ℕ) → slot (words_of bits words 0 n) j ≡ Some v → bit_of bits j ≡ 1
marked_words bits words n j v e = elim (cases_lt j n) [
  | inl l ↦ bit_from bits words j v (sym (word_in bits words n j l) ∙ e)
  | inr l ↦ absurd (none-some v (sym (word_out bits words n j l) ∙ e))
]

pub there_word : (bits words : List ℕ) (n j : ℕ) → is_some (slot (words_of bits words 0 n) j) ≡ true → bit_of bits j ≡ 1
there_word bits words n j h = some (slot (words_of bits words 0 n) j) refl h
  where
    some : (o : Option ℕ) → slot (words_of bits words 0 n) j ≡ o → is_some o ≡ true → bit_of bits j ≡ 1
    some None e h = absurd (clash h)
    some (Some v) e h = marked_words bits words n j v e

-- ---- a column is given a word

pub words_set : (bits words more others : List ℕ) (n c v : ℕ) → c < n → bit_of more c ≡ 1 → get_or others c 0 ≡ v
    → ((j : ℕ) → j ≢ c → word_at more others j ≡ word_at bits words j)
    → words_of more others 0 n ≡ set (words_of bits words 0 n) c (Some v)
words_set bits words more others n c v l b w h =
    ext_get_or None (words_of more others 0 n) (set (words_of bits words 0 n) c (Some v))
    (length_words more others 0 n ∙ sym (length-set (words_of bits words 0 n) c (Some v) ∙ length_words bits words 0 n))
    (λ j i. let inside : j < n = let m = length_words more others 0 n in omega (arith, m, i) in
    word_in more others n j inside ∙ elim (eqb_tells j c) [
      | inl d ↦ subst (λ k. word_at more others k ≡ slot (set (words_of bits words 0 n) c (Some v)) k) (sym d.1)
          (word_set more others c b ∙ (ap Some w ∙ sym (get_or-set_same (words_of bits words 0 n) c (Some v) None
          (let m = length_words bits words 0 n in omega (arith, m, l)))))
      | inr d ↦ h j d.1 ∙ (sym (word_in bits words n j inside) ∙ sym (get_or-set_other (words_of bits words 0 n) c j (Some v) None d.1))
    ])

-- with its bit, or where that is set already
pub word_other : (bits words more : List ℕ) (c v j : ℕ) → j ≢ c → bit_of more j ≡ bit_of bits j
    → word_at more (set words c v) j ≡ word_at bits words j
word_other bits words more c v j ne e =
    ap (λ k. if eqb k 1 then Some (get_or (set words c v) j 0) else None) e
    ∙ ap (λ w. if eqb (bit_of bits j) 1 then Some w else None) (get_or-set_other words c j v 0 ne)

-- ---- all bits are cleared

pub words_none : (bits words : List ℕ) (n : ℕ) → AreClear 0 bits → (j : ℕ) → slot (words_of bits words 0 n) j ≡ None
words_none bits words n h j = elim (cases_lt j n) [
  | inl l ↦ word_in bits words n j l ∙ word_clear bits words j (λ e. let z = h j (omega arith) in omega (arith, z, e))
  | inr l ↦ word_out bits words n j l
]

pub clear_from_none : (bits words : List ℕ) (n : ℕ) → AreClear n bits → ((j : ℕ) → slot (words_of bits words 0 n) j ≡ None)
    → AreClear 0 bits
clear_from_none bits words n h e j a = elim (cases_lt j n) [
  | inl l ↦ bit_from_none bits words j (sym (word_in bits words n j l) ∙ e j)
  | inr l ↦ h j l
]

-- bits of all columns that have a word are cleared, and those of others stay so
pub all_cleared : (bits words next : List ℕ) (n : ℕ) → AreClear n bits
    → ((j : ℕ) → bit_of bits j ≡ 0 → bit_of next j ≡ 0)
    → ((j : ℕ) → j < n → (v : ℕ) → slot (words_of bits words 0 n) j ≡ Some v → bit_of next j ≡ 0) → AreClear 0 next
all_cleared bits words next n h kept gone j a = elim (cases_lt j n) [
  | inl l ↦ elim (eqb_tells (bit_of bits j) 1) [
    | inl d ↦ gone j l (get_or words j 0) (word_in bits words n j l ∙ word_set bits words j d.1)
    | inr d ↦ kept j (let m = d.1 in let k = bit_at-lt (get_or bits (j / 64) 0) (j % 64) in omega (arith, m, k))
  ]
  | inr l ↦ kept j (h j l)
]

-- ---- more words of bits, none of them set

zeros : (n p : ℕ) → get_or {A = ℕ} (replicate n 0) p 0 ≡ 0
zeros zero zero = refl
zeros zero (suc p) = refl
zeros (suc n) zero = refl
zeros (suc n) (suc p) = zeros n p

none_more : (xs : List ℕ) (n p : ℕ) → get_or (xs ++ replicate n 0) p 0 ≡ get_or xs p 0
none_more [] n zero = zeros n zero
none_more [] n (suc p) = zeros n (suc p)
none_more (x ∷ xs) n zero = refl
none_more (x ∷ xs) n (suc p) = none_more xs n p

pub lengthened : (xs next : List ℕ) (k m p : ℕ) → length xs ≤ k → next ≡ take k xs ++ replicate m 0 → get_or next p 0 ≡ get_or xs p 0
lengthened xs next k m p l e =
    ap (λ us. get_or us p 0) (e ∙ ap (λ us. us ++ replicate m 0) (take_all k xs l)) ∙ none_more xs m p

pub clear_lengthened : (bits next : List ℕ) (n : ℕ) → AreClear n bits → ((p : ℕ) → get_or next p 0 ≡ get_or bits p 0) → AreClear n next
clear_lengthened bits next n h e = λ j a. ap (λ w. bit_at w (j % 64)) (e (j / 64)) ∙ h j a
