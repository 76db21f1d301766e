use Rattle.std.proofs.Common.{◌≡◌, length, ap, arith}
use Rattle.row_product.specs.inner.DenseSums.{words_of}
use Rattle.row_product.proofs.Flags.{length_words}
use Rattle.row_product.proofs.dense_sums.DenseSums.capacity.Goals as goal

pub returns : goal.returns
returns c =
    let i = c.self.inside in
    let l = length_words i.bits.items i.words.items 0 i.columns in
    let v : length (words_of i.bits.items i.words.items 0 i.columns) ≡ length c.args.self.now = ap length c.self.view_is in
    let w = c.self.invariant.0 in
    let e = c.len.ensures in
    omega (arith, l, v, w, e)
