use Rattle.std.proofs.Common.{◌≡◌, length, sym, ap, ◌∙◌, subst, arith}
use Rattle.row_product.specs.inner.DenseSums.{bit_of, words_of}
use Rattle.row_product.specs.inner.Sums.{slot}
use Rattle.row_product.proofs.Flags.{length_words, marked_words}
use Rattle.row_product.proofs.dense_sums.DenseSums.bits.Goals as goal

pub returns-clause-long : goal.returns-clause-long
returns-clause-long c =
    let i = c.self.inside in
    let l = length_words i.bits.items i.words.items 0 i.columns in
    let v : length (words_of i.bits.items i.words.items 0 i.columns) ≡ length c.args.self.now = ap length c.self.view_is in
    let w = c.self.invariant.1 in
    let d = ap length c.deref.ensures.value in
    omega (arith, l, v, w, d)

pub returns-clause-marked : goal.returns-clause-marked
returns-clause-marked c = λ j v e.
    let i = c.self.inside in
    subst (λ us. bit_of us j ≡ 1) (sym c.deref.ensures.value)
    (marked_words i.bits.items i.words.items i.columns j v (ap (λ us. slot us j) c.self.view_is ∙ e))
