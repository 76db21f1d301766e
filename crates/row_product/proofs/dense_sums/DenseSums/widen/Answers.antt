use Rattle.std.proofs.Common.{ap, ◌∙◌, arith}
use Rattle.row_product.specs.inner.Sums.{slot}
use Rattle.row_product.proofs.Flags.{length_words, words_none, clear_from_none, clear_lengthened}
use Rattle.row_product.proofs.dense_sums.DenseSums.widen.Goals as goal

pub invariant_of-self : goal.invariant_of-self
invariant_of-self c =
    let i = c.self.inside in (
      omega arith,
      omega arith,
      clear_lengthened i.bits.items c.lengthen.new.words.items 0 (clear_from_none i.bits.items i.words.items i.columns c.self.invariant.2
          (λ j. ap (λ us. slot us j) c.self.view_is ∙ c.requires.none j)) c.lengthen.ensures.same,
    )

pub invariant_of-self-in_err-lengthen-2 : goal.invariant_of-self-in_err-lengthen-2
invariant_of-self-in_err-lengthen-2 c =
    let i = c.self.inside in (
      omega arith,
      omega arith,
      clear_lengthened i.bits.items c.lengthen.new.words.items 0 (clear_from_none i.bits.items i.words.items i.columns c.self.invariant.2
          (λ j. ap (λ us. slot us j) c.self.view_is ∙ c.requires.none j)) c.lengthen.ensures.same,
    )

pub invariant_of-self-2 : goal.invariant_of-self-2
invariant_of-self-2 c =
    let i = c.self.inside in
    let b = c.in_ok-lengthen.ensures.long in (
      c.in_ok-lengthen-2.ensures.long,
      omega (arith, b),
      λ j a.
          clear_lengthened i.bits.items c.lengthen.new.words.items 0 (clear_from_none i.bits.items i.words.items i.columns
          c.self.invariant.2 (λ k. ap (λ us. slot us k) c.self.view_is ∙ c.requires.none k)) c.lengthen.ensures.same j (omega arith),
    )

pub returns-clause-wide : goal.returns-clause-wide
returns-clause-wide c = length_words c.lengthen.new.words.items c.lengthen-2.new.words.items 0 c.args.columns

pub returns-clause-none : goal.returns-clause-none
returns-clause-none c =
    let i = c.self.inside in
    words_none c.lengthen.new.words.items c.lengthen-2.new.words.items c.args.columns
    (clear_lengthened i.bits.items c.lengthen.new.words.items 0 (clear_from_none i.bits.items i.words.items i.columns c.self.invariant.2
    (λ j. ap (λ us. slot us j) c.self.view_is ∙ c.requires.none j)) c.lengthen.ensures.same)
