use Rattle.std.proofs.Common.{sym, ◌∙◌}
use Rattle.csr_store.proofs.OneEach.{have_one_each}
use Rattle.csr_store.proofs.matrix.Matrix.one_each.Goals as goal

pub returns-then-cells-many : goal.returns-then-cells-many
returns-then-cells-many c =
    have_one_each c.args.self.now c.args.range.start c.args.range.end c.cells_of-cells.result.now c.columns.ensures.is_grid
    (sym c.columns.ensures.columns ∙ c.if-columns-ne1.false) c.requires.range c.cells_of-cells.ensures c.if-cells-many.true
