use Rattle.std.proofs.Common.{drop}
use Rattle.row_product.proofs.Marking.{Forbidding}
use Rattle.row_product.proofs.mask_flags.forbid.Given as goal

abbrev pub invariant-loop-cell : goal.invariant-loop-cell
invariant-loop-cell l = Forbidding (drop l.cell-index l.row) l.allowed
