use Rattle.row_product.proofs.Bits.{IsCleared}
use Rattle.row_product.proofs.bitset.clear_bits.Given as goal

abbrev pub invariant-loop-nth : goal.invariant-loop-nth
invariant-loop-nth l = IsCleared l.fn.bits.items l.nth l.bits.items
