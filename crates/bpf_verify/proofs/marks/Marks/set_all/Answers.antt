use Rattle.std.proofs.Common.{arith, ◌∙◌}
use Rattle.bpf_verify.proofs.Bits.{more_marked}
use Rattle.bpf_verify.proofs.marks.Marks.set_all.Goals as goal

pub loop-byte-preserved : goal.loop-byte-preserved
loop-byte-preserved c =
    λ other. more_marked c.loop-byte.byte _ other _ _ (omega arith) (c.set.ensures other) ∙ c.loop-byte.invariant other
