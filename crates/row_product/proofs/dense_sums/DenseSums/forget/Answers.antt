use Rattle.std.proofs.Common.{◌≡◌, length, ap, arith}
use Rattle.row_product.specs.inner.DenseSums.{words_of}
use Rattle.row_product.proofs.Flags.{length_words, words_none, all_cleared}
use Rattle.row_product.proofs.dense_sums.DenseSums.forget.Goals as goal

pub returns-clause-none : goal.returns-clause-none
returns-clause-none c = λ j.
    let i = c.self.inside in
    words_none c.clear_bits.new.bits.items i.words.items i.columns
    (all_cleared i.bits.items i.words.items c.clear_bits.new.bits.items i.columns c.self.invariant.2 c.clear_bits.ensures.unchanged
    (λ j l v e. c.clear_bits.ensures.clear j l)) j

pub returns-clause-long : goal.returns-clause-long
returns-clause-long c =
    let i = c.self.inside in
    let l = length_words i.bits.items i.words.items 0 i.columns in
    let v : length (words_of i.bits.items i.words.items 0 i.columns) ≡ length c.args.self.now = ap length c.self.view_is in
    let n = length_words c.clear_bits.new.bits.items i.words.items 0 i.columns in
    omega (arith, l, v, n)
