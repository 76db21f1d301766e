use Rattle.std.proofs.Common.{◌≡◌, ◌<◌, ℕ, zero, suc, List, [], ◌∷◌, length, get_or, arith, sym, ◌∙◌, true}
use Rattle.text_words.specs.Words.{is_blank}
use Rattle.text_words.specs.inner.Words.{IsAtWord}
use Rattle.text_words.proofs.FirstWord.{word_before, one_word}
use Rattle.text_words.proofs.words.word_length.Goals as goal

pub returns-clause-word : goal.returns-clause-word
returns-clause-word c = λ some. one_word c.args.text.now some (λ k l. c.loop-i.invariant k (omega arith))

-- a blank is not the first byte
not_first : (text : List ℕ) (i : ℕ) → IsAtWord text → 0 < length text → is_blank (get_or text i 0) ≡ true → 0 < i
not_first [] i a some e = absurd (omega arith)
not_first (b ∷ bs) zero a some e = absurd (cc)
not_first (b ∷ bs) (suc i) a some e = omega arith

pub returns-then-is_blank-clause-word : goal.returns-then-is_blank-clause-word
returns-then-is_blank-clause-word c = λ some.
    let text = c.args.text.now in
    let here = sym c.is_blank.ensures ∙ c.if-is_blank.true in
    word_before text c.loop-i.i (not_first text c.loop-i.i c.requires some here) (omega arith) c.loop-i.invariant here
