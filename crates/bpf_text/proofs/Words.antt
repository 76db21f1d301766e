-- Words of bytes that are no blank, no comma, no comment mark and no line end.
use Rattle.std.proofs.Common.{◌≡◌, ◌≤◌, ◌+◌, ℕ, suc, Bool, true, false, cond, not, ◌&&◌, eqb, leb, List, []}
use Rattle.std.proofs.Common.{◌∷◌, ◌++◌, None, take, drop, refl, ap, ◌∙◌, ⊎_elim, arith}
use Rattle.std.specs.List.{position_or_len, before_first, after_first, list_all, slice_split, onto_first}
use Rattle.std.proofs.lemmas.Bool.{leb-true, eqb-false}
use Rattle.std.proofs.lemmas.Bool.Decides.{eqb_tells}
use Rattle.text_words.specs.Words.{is_blank, unindented}
use Rattle.bpf_text.specs.Lines.{is_comma, is_comment_mark, is_blank_text, first_word, behind_word, argument_of, argument_in}

abbrev pub is_word_byte : ℕ → Bool
is_word_byte b = leb 45 b && not (eqb b 59)

abbrev pub IsWordByte : ℕ → Type 0
IsWordByte b = (45 ≤ b) × (b ≡ 59 → ⊥)

pub unequal : (a b : ℕ) → (a ≡ b → ⊥) → eqb a b ≡ false
unequal a b h = ⊎_elim (λ (p : (eqb a b ≡ true) × (a ≡ b)). absurd (h p.1)) (λ (p : (eqb a b ≡ false) × (a ≡ b → ⊥)). p.0) (eqb_tells a b)

pub word_byte : (b : ℕ) → is_word_byte b ≡ true → IsWordByte b
word_byte b e = parts (leb 45 b) refl (eqb b 59) refl e
  where
    parts : (s : Bool) → leb 45 b ≡ s → (t : Bool) → eqb b 59 ≡ t → (s && not t) ≡ true → IsWordByte b
    parts true f false g e = (leb-true 45 b f, eqb-false b 59 g)
    parts true f true g e = absurd (cc)
    parts false f t g e = absurd (cc)

-- all bytes of a word
abbrev pub AreWordBytes : List ℕ → Type 0
AreWordBytes [] = Unit {0}
AreWordBytes (b ∷ bs) = IsWordByte b × AreWordBytes bs

pub word_bytes : (w : List ℕ) → list_all is_word_byte w ≡ true → AreWordBytes w
word_bytes [] e = tt
word_bytes (b ∷ bs) e =
    elim (is_word_byte b) as (λ t. is_word_byte b ≡ t → (t && list_all is_word_byte bs) ≡ true → AreWordBytes (b ∷ bs)) [
      | true ↦ λ t f. (word_byte b t, word_bytes bs f)
      | false ↦ λ t f. absurd (cc)
    ] refl e

pub not_blank : (b : ℕ) → IsWordByte b → is_blank b ≡ false
not_blank b h =
    let low = h.0 in
    let space : eqb b 32 ≡ false = unequal b 32 (λ e. omega arith) in
    let tab : eqb b 9 ≡ false = unequal b 9 (λ e. omega arith) in
    rw (space, tab) refl

pub not_comma : (b : ℕ) → IsWordByte b → is_comma b ≡ false
not_comma b h = let low = h.0 in unequal b 44 (λ e. omega arith)

pub not_mark : (b : ℕ) → IsWordByte b → is_comment_mark b ≡ false
not_mark b h =
    let low = h.0 in
    let semicolon : eqb b 59 ≡ false = unequal b 59 h.1 in
    let hash : eqb b 35 ≡ false = unequal b 35 (λ e. omega arith) in
    rw (semicolon, hash) refl

-- A list cut at the first element that passes, element by element.

pub before-cons : (p : ℕ → Bool) (c : ℕ) (cs : List ℕ) → p c ≡ false
    → before_first p (c ∷ cs) ≡ c ∷ before_first p cs
before-cons p c cs e = rw e (ap (λ k. take k (c ∷ cs)) (let one : 1 + position_or_len p cs ≡ suc (position_or_len p cs) = omega arith in one))

pub after-cons : (p : ℕ → Bool) (c : ℕ) (cs : List ℕ) → p c ≡ false → after_first p (c ∷ cs) ≡ after_first p cs
after-cons p c cs e = rw e (ap (λ k. drop k (c ∷ cs)) (let one : 1 + position_or_len p cs + 1 ≡ suc (position_or_len p cs + 1) = omega arith in one))

pub before-here : (p : ℕ → Bool) (c : ℕ) (cs : List ℕ) → p c ≡ true → before_first p (c ∷ cs) ≡ []
before-here p c cs e = rw e refl

pub after-here : (p : ℕ → Bool) (c : ℕ) (cs : List ℕ) → p c ≡ true → after_first p (c ∷ cs) ≡ cs
after-here p c cs e = rw e refl

-- a word alone, and one with a blank behind it

pub word_alone : (w : List ℕ) → AreWordBytes w → before_first is_blank w ≡ w
word_alone [] h = refl
word_alone (b ∷ bs) h = before-cons is_blank b bs (not_blank b h.0) ∙ ap (λ x. b ∷ x) (word_alone bs h.1)

pub nothing_behind : (w : List ℕ) → AreWordBytes w → after_first is_blank w ≡ []
nothing_behind [] h = refl
nothing_behind (b ∷ bs) h = after-cons is_blank b bs (not_blank b h.0) ∙ nothing_behind bs h.1

pub word_first : (w x : List ℕ) → AreWordBytes w → before_first is_blank (w ++ 32 ∷ x) ≡ w
word_first [] x h = refl
word_first (b ∷ bs) x h = before-cons is_blank b (bs ++ 32 ∷ x) (not_blank b h.0) ∙ ap (λ y. b ∷ y) (word_first bs x h.1)

pub word_behind : (w x : List ℕ) → AreWordBytes w → after_first is_blank (w ++ 32 ∷ x) ≡ x
word_behind [] x h = refl
word_behind (b ∷ bs) x h = after-cons is_blank b (bs ++ 32 ∷ x) (not_blank b h.0) ∙ word_behind bs x h.1

-- a text that begins with a word

pub begins_unindented : (b : ℕ) (bs : List ℕ) → IsWordByte b → unindented (b ∷ bs) ≡ b ∷ bs
begins_unindented b bs h = rw (not_blank b h) refl

pub begins_no_blank : (b : ℕ) (bs : List ℕ) → IsWordByte b → is_blank_text (b ∷ bs) ≡ false
begins_no_blank b bs h = rw (not_blank b h) refl

pub space_unindented : (b : ℕ) (bs : List ℕ) → IsWordByte b → unindented (32 ∷ b ∷ bs) ≡ b ∷ bs
space_unindented b bs h = rw (not_blank b h) refl

-- an operand that is one word, with a space before it or none

word_operand : (text w : List ℕ) → unindented text ≡ w → AreWordBytes w → argument_in text ≡ argument_of w
word_operand text w e h =
    let behind : behind_word text ≡ [] = ap (after_first is_blank) e ∙ nothing_behind w h in
    let word : first_word text ≡ w = ap (before_first is_blank) e ∙ word_alone w h in
    (λ i. cond (is_blank_text (behind i)) (argument_of (word i)) None)

pub operand_alone : (b : ℕ) (bs : List ℕ) → AreWordBytes (b ∷ bs) → argument_in (b ∷ bs) ≡ argument_of (b ∷ bs)
operand_alone b bs h = word_operand (b ∷ bs) (b ∷ bs) (begins_unindented b bs h.0) h

pub operand_behind_space : (b : ℕ) (bs : List ℕ) → AreWordBytes (b ∷ bs)
    → argument_in (32 ∷ b ∷ bs) ≡ argument_of (b ∷ bs)
operand_behind_space b bs h = word_operand (32 ∷ b ∷ bs) (b ∷ bs) (space_unindented b bs h.0) h

-- words cut at commas

pub last_part : (w : List ℕ) → AreWordBytes w → slice_split is_comma w ≡ w ∷ []
last_part [] h = refl
last_part (b ∷ bs) h = rw (not_comma b h.0, last_part bs h.1) refl

pub part_before_comma : (w x : List ℕ) → AreWordBytes w
    → slice_split is_comma (w ++ 44 ∷ x) ≡ w ∷ slice_split is_comma x
part_before_comma [] x h = refl
part_before_comma (b ∷ bs) x h = rw (not_comma b h.0, part_before_comma bs x h.1) refl

-- with a space before the word
pub spaced_last_part : (w : List ℕ) → AreWordBytes w → slice_split is_comma (32 ∷ w) ≡ (32 ∷ w) ∷ []
spaced_last_part w h = ap (onto_first 32) (last_part w h)

pub spaced_part_before_comma : (w x : List ℕ) → AreWordBytes w
    → slice_split is_comma (32 ∷ (w ++ 44 ∷ x)) ≡ (32 ∷ w) ∷ slice_split is_comma x
spaced_part_before_comma w x h = ap (onto_first 32) (part_before_comma w x h)
