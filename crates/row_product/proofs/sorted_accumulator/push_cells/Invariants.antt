use Rattle.std.proofs.Common.{drop}
use Rattle.row_product.proofs.Multiplying.{Pushing}
use Rattle.row_product.proofs.sorted_accumulator.push_cells.Given as goal

abbrev pub invariant-loop-column : goal.invariant-loop-column
invariant-loop-column l = Pushing l.fn.rows l.cells l.rows (drop l.column-index l.cells) (drop l.column-index l.cells)
