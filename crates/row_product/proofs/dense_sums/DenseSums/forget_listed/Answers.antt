use Rattle.std.proofs.Common.{◌≡◌, length, sym, ap, ◌∙◌, arith}
use Rattle.row_product.specs.inner.DenseSums.{words_of}
use Rattle.row_product.specs.inner.Sums.{slot}
use Rattle.row_product.proofs.Flags.{length_words, words_none, all_cleared}
use Rattle.row_product.proofs.dense_sums.DenseSums.forget_listed.Goals as goal

pub returns-clause-none : goal.returns-clause-none
returns-clause-none c = λ j.
    let i = c.self.inside in
    words_none c.clear_listed.new.bits.items i.words.items i.columns
    (all_cleared i.bits.items i.words.items c.clear_listed.new.bits.items i.columns c.self.invariant.2 c.clear_listed.ensures.unchanged
    (λ j l v e. c.clear_listed.ensures.clear j (c.requires j v (ap (λ us. slot us j) (sym c.self.view_is) ∙ e)))) j

pub returns-clause-long : goal.returns-clause-long
returns-clause-long c =
    let i = c.self.inside in
    let l = length_words i.bits.items i.words.items 0 i.columns in
    let v : length (words_of i.bits.items i.words.items 0 i.columns) ≡ length c.args.self.now = ap length c.self.view_is in
    let n = length_words c.clear_listed.new.bits.items i.words.items 0 i.columns in
    omega (arith, l, v, n)
