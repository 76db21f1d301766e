use Rattle.std.proofs.Common.{◌∙◌, ◌/◌, arith}
use Rattle.std.proofs.lemmas.Grind.{get_or_default_zero}
use Rattle.csr_store.proofs.ByBits.{byte_is, bit_here, bit_there}
use Rattle.csr_store.proofs.column.set_bit.Goals as goal

pub returns-clause-set : goal.returns-clause-set
returns-clause-set c =
    let l = c.requires in
    bit_here c.args.bits.now.items c.args.k c.index_mut.result.now c.from.result c.args.stands l
    (c.index_mut.ensures.value ∙ get_or_default_zero c.args.bits.now.items (c.args.k / 64) c.index_mut.result.now (omega (arith, l)))
    (c.from.ensures ∙ byte_is c.args.stands)

pub returns-clause-others : goal.returns-clause-others
returns-clause-others c =
    let l = c.requires in
    bit_there c.args.bits.now.items c.args.k c.index_mut.result.now c.from.result c.args.stands l
    (c.index_mut.ensures.value ∙ get_or_default_zero c.args.bits.now.items (c.args.k / 64) c.index_mut.result.now (omega (arith, l)))
    (c.from.ensures ∙ byte_is c.args.stands)
