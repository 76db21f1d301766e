use Rattle.row_product.proofs.Bits.{bit_set, bit_other}
use Rattle.row_product.proofs.bitset.set_bit.Goals as goal

pub returns-clause-set : goal.returns-clause-set
returns-clause-set c = bit_set c.args.bits.now c.args.column c.requires

pub returns-clause-others : goal.returns-clause-others
returns-clause-others c = λ j ne. bit_other c.args.bits.now c.args.column j c.requires ne
