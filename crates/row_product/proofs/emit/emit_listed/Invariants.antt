use Rattle.std.proofs.Common.{drop}
use Rattle.row_product.specs.inner.Sums.{slot}
use Rattle.row_product.proofs.Putting.{Listing}
use Rattle.row_product.proofs.emit.emit_listed.Given as goal

abbrev pub invariant-loop-column : goal.invariant-loop-column
invariant-loop-column l = Listing l.fn.rows.columns (slot l.dense) l.fn.rows l.next (drop l.column-index l.listed) l.rows
