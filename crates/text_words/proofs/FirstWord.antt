-- The first word of a text.
use Rattle.std.proofs.Common.{◌≡◌, ◌<◌, ◌+◌, ℕ, suc, Bool, true, false, List, [], ◌∷◌, length, take, drop}
use Rattle.std.proofs.Common.{get_or, filter}
use Rattle.std.proofs.Common.{refl, sym, ap, ◌∙◌, arith}
use Rattle.std.proofs.lemmas.List.{at_drop_more, drop_all, take_all, length-take-le}
use Rattle.std.specs.List.{prefix_len, slice_split}
use Rattle.text_words.specs.Words.{words, is_blank, is_some_text, unindented}
use Rattle.text_words.specs.inner.Words.{IsAtWord}
use Rattle.text_words.proofs.Parts.{NoneBefore, part_at, one_part}

same_words : (b : ℕ) (bs : List ℕ) → is_blank b ≡ true → words bs ≡ words (b ∷ bs)
same_words b bs e = rw e refl

some_kept : (part : List ℕ) (parts : List (List ℕ)) → 0 < length part
    → filter is_some_text (part ∷ parts) ≡ part ∷ filter is_some_text parts
some_kept [] parts some = absurd (omega arith)
some_kept (b ∷ bs) parts some = refl

pub word_before : (text : List ℕ) (i : ℕ) → 0 < i → i < length text → NoneBefore is_blank text i
    → is_blank (get_or text i 0) ≡ true
    → words text ≡ take i text ∷ words (drop i text)
word_before text i some l before here =
    let behind = same_words (get_or text i 0) (drop (i + 1) text) here ∙ sym (at_drop_more words text i 0 l) in
    let long : length (take i text) ≡ i = length-take-le i text (omega arith) in
    ap (filter is_some_text) (part_at is_blank text i l before here)
    ∙ some_kept (take i text) (slice_split is_blank (drop (i + 1) text)) (omega arith)
    ∙ ap (λ ws. take i text ∷ ws) behind

pub one_word : (text : List ℕ) → 0 < length text → NoneBefore is_blank text (length text)
    → words text ≡ take (length text) text ∷ words (drop (length text) text)
one_word text some none =
    let all : take (length text) text ≡ text = take_all (length text) text (omega arith) in
    let nothing : drop (length text) text ≡ [] = drop_all (length text) text (omega arith) in
    rw (all, nothing) (ap (filter is_some_text) (one_part is_blank text none) ∙ some_kept text [] some)

-- without the blanks at its front

behind_blank : (b : ℕ) (bs : List ℕ) → is_blank b ≡ true → unindented (b ∷ bs) ≡ unindented bs
behind_blank b bs e =
    let next : 1 + prefix_len is_blank bs ≡ suc (prefix_len is_blank bs) = omega arith in
    rw e (ap (λ n. drop n (b ∷ bs)) next)

at_word : (b : ℕ) (bs : List ℕ) → is_blank b ≡ false → unindented (b ∷ bs) ≡ b ∷ bs
at_word b bs e = rw e refl

-- the second text has the words of the first, and begins with one
abbrev pub Same : List ℕ → List ℕ → Type 0
Same xs ys = (words ys ≡ words xs) × IsAtWord ys

pub unindented_same : (text : List ℕ) → Same text (unindented text)
unindented_same [] = (refl, tt)
unindented_same (b ∷ bs) = by (unindented_same bs) (is_blank b) refl
  where
    by : Same bs (unindented bs) → (t : Bool) → is_blank b ≡ t → Same (b ∷ bs) (unindented (b ∷ bs))
    by s true e = rw (behind_blank b bs e) (s.0 ∙ same_words b bs e, s.1)
    by s false e = rw (at_word b bs e) (refl, e)
