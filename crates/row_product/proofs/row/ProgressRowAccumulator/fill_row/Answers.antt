use Rattle.std.proofs.Common.{refl, sym, ◌∙◌}
use Rattle.row_product.proofs.Ending.{adds_closed}
use Rattle.row_product.proofs.row.ProgressRowAccumulator.fill_row.Goals as goal

pub returns-then-not-is_open-clause-row : goal.returns-then-not-is_open-clause-row
returns-then-not-is_open-clause-row c =
    adds_closed c.args.factors.now c.args.i c.args.making.now _ c.end_row.result c.requires.next
    (sym c.is_open.ensures ∙ c.if-not-is_open.true) refl c.end_row.ensures.ended
