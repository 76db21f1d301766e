use Rattle.std.proofs.Common.{◌≡◌, ◌<◌, Some, is_some, length, set, refl, ap, ◌∙◌, arith, get_or-set_same}
use Rattle.row_product.specs.inner.DenseSums.{words_of}
use Rattle.row_product.specs.inner.Sums.{slot}
use Rattle.row_product.proofs.Flags.{length_words, words_set, word_other, there_word}
use Rattle.row_product.proofs.dense_sums.DenseSums.replace.Goals as goal

pub index_mut-requires : goal.index_mut-requires
index_mut-requires c =
    let i = c.self.inside in
    let l = length_words i.bits.items i.words.items 0 i.columns in
    let v : length (words_of i.bits.items i.words.items 0 i.columns) ≡ length c.args.self.now = ap length c.self.view_is in
    let w = c.self.invariant.0 in
    let r = c.requires.within in
    omega (arith, l, v, w, r)

pub returns : goal.returns
returns c =
    let i = c.self.inside in
    let l = length_words i.bits.items i.words.items 0 i.columns in
    let v : length (words_of i.bits.items i.words.items 0 i.columns) ≡ length c.args.self.now = ap length c.self.view_is in
    let r = c.requires.within in
    let w = c.self.invariant.0 in
    let inside : c.args.column < i.columns = omega (arith, l, v, r) in
    words_set i.bits.items i.words.items i.bits.items (set i.words.items c.args.column c.args.sum) i.columns c.args.column c.args.sum
    inside (there_word i.bits.items i.words.items i.columns c.args.column (ap (λ us. is_some (slot us c.args.column)) c.self.view_is
    ∙ c.requires.there)) (get_or-set_same i.words.items c.args.column c.args.sum 0 (omega (arith, inside, w)))
    (λ j ne. word_other i.bits.items i.words.items i.bits.items c.args.column c.args.sum j ne refl)
    ∙ ap (λ us. set us c.args.column (Some c.args.sum)) c.self.view_is
