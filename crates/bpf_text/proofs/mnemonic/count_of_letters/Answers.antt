use Rattle.std.proofs.Common.{sym, ◌∙◌, arith, length}
use Rattle.std.specs.Char.{is_ascii_digit}
use Rattle.std.proofs.lemmas.List.Sums.{position_or_len_is}
use Rattle.bpf_text.proofs.mnemonic.count_of_letters.Goals as goal

pub returns-then-is_ascii_digit-clause-count : goal.returns-then-is_ascii_digit-clause-count
returns-then-is_ascii_digit-clause-count c =
    sym (position_or_len_is is_ascii_digit c.args.word.now c.loop-i.i 0 (omega arith) c.loop-i.invariant (λ _. sym c.is_ascii_digit.ensures.value ∙ c.if-is_ascii_digit.true))

pub returns-clause-count : goal.returns-clause-count
returns-clause-count c =
    sym (position_or_len_is is_ascii_digit c.args.word.now (length c.args.word.now) 0 (omega arith) (λ k l. c.loop-i.invariant k (omega arith)) (λ l. absurd (omega arith)))
