use Rattle.std.proofs.Common.{arith, ◌≢◌, ◌<◌, ◌∙◌, length, get_or-set_other, get_or-set_same, below_more}
use Rattle.std.proofs.lemmas.List.{length-set}
use Rattle.bpf_verify.specs.declared.tag.Tag.TheVariants.{Unset}
use Rattle.bpf_verify.proofs.facts.joined.Goals as goal

pub loop-i-preserved : goal.loop-i-preserved
loop-i-preserved c =
    let within : c.loop-i.i < length c.loop-i.tags = omega (arith, c.loop-i.invariant.1) in (
      below_more _ _
          (λ k h. let ne : k ≢ c.loop-i.i = omega arith in get_or-set_other c.loop-i.tags c.loop-i.i k c.join.result Unset ne ∙ c.loop-i.invariant.0 k h)
          (get_or-set_same c.loop-i.tags c.loop-i.i c.join.result Unset within ∙ c.join.ensures),
      length-set c.loop-i.tags c.loop-i.i c.join.result ∙ c.loop-i.invariant.1,
    )
