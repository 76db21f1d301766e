use Rattle.std.proofs.Common.{◌≡◌, ◌<◌, Some, length, sym, ap, ◌∙◌, subst, arith}
use Rattle.std.proofs.lemmas.Grind.{get_or_default_zero}
use Rattle.row_product.specs.inner.DenseSums.{bit_of, words_of}
use Rattle.row_product.specs.inner.Sums.{slot}
use Rattle.row_product.proofs.Flags.{length_words, word_in, word_set, word_clear}
use Rattle.row_product.proofs.dense_sums.DenseSums.get.Goals as goal

pub is_set-requires : goal.is_set-requires
is_set-requires c =
    let i = c.self.inside in
    let l = length_words i.bits.items i.words.items 0 i.columns in
    let v : length (words_of i.bits.items i.words.items 0 i.columns) ≡ length c.args.self.now = ap length c.self.view_is in
    let w = c.self.invariant.1 in
    let d = ap length c.deref.ensures.value in
    let r = c.requires in
    omega (arith, l, v, w, d, r)

pub returns-then-is_set : goal.returns-then-is_set
returns-then-is_set c =
    let i = c.self.inside in
    let l = length_words i.bits.items i.words.items 0 i.columns in
    let v : length (words_of i.bits.items i.words.items 0 i.columns) ≡ length c.args.self.now = ap length c.self.view_is in
    let r = c.requires in
    let inside : c.args.column < i.columns = omega (arith, l, v, r) in
    let bit = subst (λ us. bit_of us c.args.column ≡ 1) c.deref.ensures.value (c.is_set.ensures.set c.if-is_set.true) in
    let w = c.self.invariant.0 in
    ap Some (c.index.ensures ∙ get_or_default_zero i.words.items c.args.column c.index.result.now (omega (arith, inside, w)))
    ∙ (sym (word_in i.bits.items i.words.items i.columns c.args.column inside
    ∙ word_set i.bits.items i.words.items c.args.column bit)
    ∙ ap (λ us. slot us c.args.column) c.self.view_is)

pub returns-else-is_set : goal.returns-else-is_set
returns-else-is_set c =
    let i = c.self.inside in
    let l = length_words i.bits.items i.words.items 0 i.columns in
    let v : length (words_of i.bits.items i.words.items 0 i.columns) ≡ length c.args.self.now = ap length c.self.view_is in
    let r = c.requires in
    let inside : c.args.column < i.columns = omega (arith, l, v, r) in
    let other = c.is_set.ensures.clear c.if-is_set.false in
    sym (word_in i.bits.items i.words.items i.columns c.args.column inside
    ∙ word_clear i.bits.items i.words.items c.args.column (λ e. other (ap (λ us. bit_of us c.args.column) c.deref.ensures.value ∙ e)))
    ∙ ap (λ us. slot us c.args.column) c.self.view_is
