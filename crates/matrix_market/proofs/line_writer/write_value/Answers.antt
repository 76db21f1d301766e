use Rattle.std.proofs.Common.{◌≡◌, ◌<◌, ◌≤◌, ◌+◌, ◌-◌, ◌^◌, ◌%◌, ◌++◌, ◌∷◌, ℕ, arith, ap, sym, ◌∙◌, drop}
use Rattle.std.proofs.lemmas.Fmt.{length-decimal-le}
use Rattle.std.proofs.lemmas.List.{drop-set}
use Rattle.std.specs.Fmt.{decimal}
use Rattle.matrix_market.proofs.Canonical.{value_text_low, value_text_high}
use Rattle.matrix_market.proofs.line_writer.write_value.Goals as goal

negated : (w r : ℕ) → r < 2 ^ 64 → 2 ^ 63 ≤ w → w < 2 ^ 64 → (r + w) % 2 ^ 64 ≡ 0 → r ≡ 2 ^ 64 - w
negated w r a b l e = omega arith

pub write_digits-requires : goal.write_digits-requires
write_digits-requires c =
    let few = length-decimal-le 19 c.args.word (omega arith) (omega arith) (omega arith) in (omega arith, omega arith)

pub returns-then-word-clause-start : goal.returns-then-word-clause-start
returns-then-word-clause-start c =
    let few = length-decimal-le 19 c.args.word (omega arith) (omega arith) (omega arith) in (omega arith, omega arith)

pub returns-then-word-clause-written : goal.returns-then-word-clause-written
returns-then-word-clause-written c =
    c.write_digits.ensures.written ∙ ap (λ t. t ++ drop c.args.end c.args.buffer.now) (sym (value_text_low c.args.word c.if-word.true))

pub write_digits-start-requires : goal.write_digits-start-requires
write_digits-start-requires c =
    let n = negated c.args.word c.wrapping_neg.result c.wrapping_neg.type_inv c.if-word.false (omega arith) c.wrapping_neg.ensures in
    let few = length-decimal-le 19 c.wrapping_neg.result (omega arith) (omega arith) (omega arith) in (omega arith, omega arith)

pub overflow_sub-buffer : goal.overflow_sub-buffer
overflow_sub-buffer c =
    let n = negated c.args.word c.wrapping_neg.result c.wrapping_neg.type_inv c.if-word.false (omega arith) c.wrapping_neg.ensures in
    let few = length-decimal-le 19 c.wrapping_neg.result (omega arith) (omega arith) (omega arith) in omega arith

pub overflow_sub-result : goal.overflow_sub-result
overflow_sub-result c =
    let n = negated c.args.word c.wrapping_neg.result c.wrapping_neg.type_inv c.if-word.false (omega arith) c.wrapping_neg.ensures in
    let few = length-decimal-le 19 c.wrapping_neg.result (omega arith) (omega arith) (omega arith) in omega arith

pub returns-clause-start : goal.returns-clause-start
returns-clause-start c =
    let n = negated c.args.word c.wrapping_neg.result c.wrapping_neg.type_inv c.if-word.false (omega arith) c.wrapping_neg.ensures in
    let few = length-decimal-le 19 c.wrapping_neg.result (omega arith) (omega arith) (omega arith) in (omega arith, omega arith)

pub returns-clause-written : goal.returns-clause-written
returns-clause-written c =
    let n = negated c.args.word c.wrapping_neg.result c.wrapping_neg.type_inv c.if-word.false (omega arith) c.wrapping_neg.ensures in
    let few = length-decimal-le 19 c.wrapping_neg.result (omega arith) (omega arith) (omega arith) in
    let w = c.write_digits-start in
    let next : w.result - 1 + 1 ≡ w.result = omega arith in
    drop-set w.new.buf (w.result - 1) 45 (omega arith)
    ∙ ap (λ k. 45 ∷ drop k w.new.buf) next
    ∙ ap (λ t. 45 ∷ t) w.ensures.written
    ∙ ap (λ k. 45 ∷ (decimal k ++ drop c.args.end c.args.buffer.now)) n
    ∙ ap (λ t. t ++ drop c.args.end c.args.buffer.now) (sym (value_text_high c.args.word c.if-word.false (omega arith)))
