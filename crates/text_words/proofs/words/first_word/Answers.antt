use Rattle.std.proofs.Common.{◌≡◌, ◌∷◌, ◌∙◌, [], List, ℕ, length, sym, ap, subst, arith, refl}
use Rattle.std.proofs.lemmas.Bool.{eqb-true, eqb-false}
use Rattle.text_words.specs.Words.{words}
use Rattle.text_words.specs.inner.Words.{IsAtWord}
use Rattle.text_words.proofs.FirstWord.{unindented_same}
use Rattle.text_words.proofs.words.first_word.Goals as goal

no_words : (xs : List ℕ) → length xs ≡ 0 → words xs ≡ []
no_words [] e = refl
no_words (b ∷ bs) e = absurd (omega arith)

pub returns-then-is_empty : goal.returns-then-is_empty
returns-then-is_empty c =
    let none = eqb-true (length c.unindented-text.result.now) 0 (sym c.is_empty.ensures ∙ c.if-is_empty.true) in
    let behind = c.unindented-text.result.now in
    sym (unindented_same c.args.text.now).0 ∙ ap words (sym c.unindented-text.ensures) ∙ no_words behind none

pub word_length-requires : goal.word_length-requires
word_length-requires c = subst IsAtWord (sym c.unindented-text.ensures) (unindented_same c.args.text.now).1

pub returns : goal.returns
returns c =
    let some = eqb-false (length c.unindented-text.result.now) 0 (sym c.is_empty.ensures ∙ c.if-is_empty.false) in
    let cut = c.word_length.ensures.word (omega arith) in
    sym (unindented_same c.args.text.now).0 ∙ ap words (sym c.unindented-text.ensures) ∙ cut
    ∙ rw (c.split_at.ensures.front, c.split_at.ensures.back) refl
