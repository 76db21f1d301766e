use Rattle.std.proofs.Common.{◌+◌, length, sym, ap, ◌∙◌, arith}
use Rattle.std.proofs.lemmas.Bool.{eqb-false}
use Rattle.std.proofs.lemmas.List.{take_rest}
use Rattle.std.specs.Char.{is_ascii_digit}
use Rattle.std.specs.List.{list_all}
use Rattle.text_words.proofs.Digits.{large_read}
use Rattle.text_words.proofs.numbers.digits.Goals as goal

pub returns-in-None : goal.returns-in-None
returns-in-None c =
    let word = c.args.word.now in
    let i = c.loop-i.i in
    let some = eqb-false (length word) 0 (sym c.is_empty.ensures ∙ c.if-is_empty.false) in
    let digit = sym c.is_ascii_digit.ensures.value ∙ c.if-not-is_ascii_digit.false in
    let large = sym c.with_digit.ensures ∙ c.in-None.is in
    let all = ap (list_all is_ascii_digit) (sym (take_rest word (i + 1))) ∙ sym c.are_digits.ensures in
    c.then_some.ensures
    ∙ large_read word i c.loop-i.number _ (omega arith) c.loop-i-test.true c.loop-i.invariant.read digit large all
