use Rattle.std.proofs.Common.{◌-◌, arith}
use Rattle.csr_store.specs.Mask.{mask_of}
use Rattle.row_product.proofs.Barren.{row_most}
use Rattle.row_product.proofs.product.fill_lists.Goals as goal

pub fill_rows-filled-requires-clause-may : goal.fill_rows-filled-requires-clause-may
fill_rows-filled-requires-clause-may c i l u e =
    let f = c.args.factors.now in
    let first = c.args.range.start in
    let n = c.args.range.end - first in
    let h = row_most (mask_of f.mask) f.a.now f.b.now first n i l (omega (arith, l, u)) e in
    let few = c.requires.few in
    omega (arith, h, few)
