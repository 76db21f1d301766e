use Rattle.std.proofs.Common.{drop}
use Rattle.row_product.proofs.Bits.{AreForgotten}
use Rattle.row_product.proofs.bitset.clear_listed.Given as goal

abbrev pub invariant-loop-column : goal.invariant-loop-column
invariant-loop-column l = AreForgotten l.fn.bits.items l.listed (drop l.column-index l.listed) l.bits.items
