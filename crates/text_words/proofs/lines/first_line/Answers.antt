use Rattle.std.proofs.Common.{◌∷◌, ◌+◌, length, sym, ◌∙◌, arith, eq-eqb}
use Rattle.std.specs.Str.Lines.{lines}
use Rattle.std.proofs.lemmas.Bool.{eqb-false}
use Rattle.std.proofs.lemmas.List.{take_rest}
use Rattle.text_words.proofs.FirstLine.{line_before, one_line}
use Rattle.text_words.proofs.lines.first_line.Goals as goal

pub returns-then-byte-eq10-clause-lines : goal.returns-then-byte-eq10-clause-lines
returns-then-byte-eq10-clause-lines c =
    let text = c.args.text.now in
    let i = c.loop-i.i in
    line_before text i (omega arith) c.loop-i.invariant (eq-eqb _ _ c.if-byte-eq10.true)
    ∙ (λ j. sym c.strip_cr.ensures j ∷ lines (sym (take_rest text (i + 1)) j))

pub returns-clause-lines : goal.returns-clause-lines
returns-clause-lines c =
    let some = eqb-false (length c.args.text.now) 0 (sym c.is_empty.ensures ∙ c.if-is_empty.false) in
    one_line c.args.text.now (omega arith) (λ k h. c.loop-i.invariant k (omega arith))
