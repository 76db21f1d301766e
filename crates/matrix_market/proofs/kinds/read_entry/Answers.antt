use Rattle.std.proofs.Common.{◌∙◌}
use Rattle.text_words.specs.Words.{words}
use Rattle.matrix_market.proofs.Numbers.{entry_three}
use Rattle.matrix_market.proofs.kinds.read_entry.Goals as goal

pub returns-in-Some-value : goal.returns-in-Some-value
returns-in-Some-value c =
    c.check_entry-in-Some-value.ensures ∙ entry_three c.args.header.size c.args.header.banner.pattern (words c.args.line.now) c.in-Three.a.now c.in-Three.b.now c.in-Three.c.now c.in-Some-number-2.i c.in-Some-number-3.j (c.in-Some-value.negative, c.in-Some-value.magnitude)
    c.args.header.rows_small c.args.header.columns_small c.if-pattern.false c.in-Three.ensures c.in-Some-number-2.ensures c.in-Some-number-3.ensures c.in-Some-value.ensures
