use Rattle.std.proofs.Common.{drop}
use Rattle.row_product.proofs.Marking.{Allowing}
use Rattle.row_product.proofs.mask_flags.allow.Given as goal

abbrev pub invariant-loop-cell : goal.invariant-loop-cell
invariant-loop-cell l = Allowing l.row (drop l.cell-index l.row) l.allowed
