use Rattle.std.proofs.Common.{subst}
use Rattle.bpf_verify.specs.Accepted.{IsSound}
use Rattle.bpf_verify.proofs.operator.verify.Goals as goal

pub returns-in-Ok-clause-sound : goal.returns-in-Ok-clause-sound
returns-in-Ok-clause-sound c =
    let e = c.in_ok-checked.ensures in
    subst (λ k. IsSound k c.args.program) e.kind (subst (λ is. IsSound c.in_ok-checked.checked.kind is) e.program e.accepted.sound)
