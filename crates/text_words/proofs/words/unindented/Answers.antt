use Rattle.std.proofs.Common.{◌∙◌, sym, ap, arith, length, drop}
use Rattle.std.proofs.lemmas.List.{drop_all, take_rest}
use Rattle.std.proofs.lemmas.List.Sums.{prefix_len_is}
use Rattle.text_words.specs.Words.{is_blank}
use Rattle.text_words.proofs.words.unindented.Goals as goal

pub returns-then-not-is_blank : goal.returns-then-not-is_blank
returns-then-not-is_blank c =
    let text = c.args.text.now in
    let count = prefix_len_is is_blank text c.loop-i.i 0 (omega arith) c.loop-i.invariant
    (λ _. sym c.is_blank.ensures ∙ c.if-not-is_blank.true) in
    take_rest text c.loop-i.i ∙ ap (λ n. drop n text) (sym count)

pub returns : goal.returns
returns c =
    let text = c.args.text.now in
    let count = prefix_len_is is_blank text (length text) 0 (omega arith) (λ k l. c.loop-i.invariant k (omega arith))
    (λ l. absurd (omega arith)) in
    sym (ap (λ n. drop n text) count ∙ drop_all (length text) text (omega arith))
