use Rattle.std.proofs.Common.{◌≡◌, ◌<◌, ◌≤◌, ◌*◌, ℕ, List, Some, length, set, sym, ap, ◌∙◌, subst, arith, get_or-set_same}
use Rattle.std.proofs.Math.ListN.{length-set}
use Rattle.std.proofs.lemmas.List.{with_items_is}
use Rattle.row_product.specs.inner.DenseSums.{bit_of, words_of, AreClear}
use Rattle.row_product.proofs.Flags.{length_words, words_set, word_other}
use Rattle.row_product.proofs.dense_sums.DenseSums.put.Goals as goal

pub index_mut-requires : goal.index_mut-requires
index_mut-requires c =
    let i = c.self.inside in
    let l = length_words i.bits.items i.words.items 0 i.columns in
    let v : length (words_of i.bits.items i.words.items 0 i.columns) ≡ length c.args.self.now = ap length c.self.view_is in
    let w = c.self.invariant.0 in
    let r = c.requires in
    omega (arith, l, v, w, r)

pub set_bit-requires : goal.set_bit-requires
set_bit-requires c =
    let i = c.self.inside in
    let l = length_words i.bits.items i.words.items 0 i.columns in
    let v : length (words_of i.bits.items i.words.items 0 i.columns) ≡ length c.args.self.now = ap length c.self.view_is in
    let w = c.self.invariant.1 in
    let d = ap length c.deref_mut.ensures.value in
    let r = c.requires in
    omega (arith, l, v, w, d, r)

pub invariant_of-self : goal.invariant_of-self
invariant_of-self c =
    let i = c.self.inside in
    let l = length_words i.bits.items i.words.items 0 i.columns in
    let v : length (words_of i.bits.items i.words.items 0 i.columns) ≡ length c.args.self.now = ap length c.self.view_is in
    let r = c.requires in
    let inside : c.args.column < i.columns = omega (arith, l, v, r) in
    let more = c.set_bit.new.bits in
    let long : length more ≡ length i.bits.items = c.set_bit.ensures.long ∙ ap length c.deref_mut.ensures.value in
    let s = length-set i.words.items c.args.column c.args.sum in
    let w = c.self.invariant.0 in
    let b = c.self.invariant.1 in
    let clear : AreClear i.columns more = λ j a.
    c.set_bit.ensures.others j (λ e. omega (arith, e, a, inside))
    ∙ (ap (λ us. bit_of us j) c.deref_mut.ensures.value ∙ c.self.invariant.2 j a) in (
      omega (arith, s, w),
      subst (λ (us : List ℕ). i.columns ≤ 64 * length us) (sym (with_items_is i.bits more (long ∙ sym i.bits.ok.0)))
          (omega (arith, long, b)),
      subst (AreClear i.columns) (sym (with_items_is i.bits more (long ∙ sym i.bits.ok.0))) clear,
    )

pub returns : goal.returns
returns c =
    let i = c.self.inside in
    let l = length_words i.bits.items i.words.items 0 i.columns in
    let v : length (words_of i.bits.items i.words.items 0 i.columns) ≡ length c.args.self.now = ap length c.self.view_is in
    let r = c.requires in
    let w = c.self.invariant.0 in
    let inside : c.args.column < i.columns = omega (arith, l, v, r) in
    let more = c.set_bit.new.bits in
    let long : length more ≡ length i.bits.items = c.set_bit.ensures.long ∙ ap length c.deref_mut.ensures.value in
    ap (λ us. words_of us (set i.words.items c.args.column c.args.sum) 0 i.columns)
    (with_items_is i.bits more (long ∙ sym i.bits.ok.0))
    ∙ (words_set i.bits.items i.words.items more (set i.words.items c.args.column c.args.sum) i.columns c.args.column c.args.sum inside
    c.set_bit.ensures.set (get_or-set_same i.words.items c.args.column c.args.sum 0 (omega (arith, inside, w)))
    (λ j ne. word_other i.bits.items i.words.items more c.args.column c.args.sum j ne
    (c.set_bit.ensures.others j ne ∙ ap (λ us. bit_of us j) c.deref_mut.ensures.value))
    ∙ ap (λ us. set us c.args.column (Some c.args.sum)) c.self.view_is)
