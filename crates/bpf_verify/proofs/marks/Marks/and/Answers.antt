use Rattle.std.proofs.Common.{arith, rules, ◌≡◌, ◌≢◌, ◌∙◌, length, bit_and, get_or, get_or-set_other}
use Rattle.std.proofs.Common.{get_or-set_same, below_more}
use Rattle.std.proofs.lemmas.List.{length-set}
use Rattle.bpf_verify.proofs.Bits.{and_words}
use Rattle.bpf_verify.proofs.marks.Marks.and.Goals as goal

pub loop-i-preserved : goal.loop-i-preserved
loop-i-preserved c =
    let long : length c.loop-i.words ≡ 8 = c.loop-i.invariant.2 in
    let both = bit_and (get_or c.args.self.now.words c.loop-i.i 0) (get_or c.args.other.now.words c.loop-i.i 0) in (
      below_more _ _
          (λ k h. let ne : k ≢ c.loop-i.i = omega arith in get_or-set_other c.loop-i.words c.loop-i.i k both 0 ne ∙ c.loop-i.invariant.0 k h)
          (get_or-set_same c.loop-i.words c.loop-i.i both 0 (omega (arith, long))),
      λ k h. let ne : k ≢ c.loop-i.i = omega arith in get_or-set_other c.loop-i.words c.loop-i.i k both 0 ne ∙ c.loop-i.invariant.1 k h,
      length-set c.loop-i.words c.loop-i.i both ∙ long,
    )

pub returns : goal.returns
returns c =
    let long : length c.args.self.now.words ≡ 8 = search rules in
    λ byte. and_words c.args.self.now.words c.args.other.now.words c.loop-i.words byte long (λ k h. c.loop-i.invariant.0 k (omega arith)) c.loop-i.invariant.1
