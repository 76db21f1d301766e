use Rattle.std.proofs.Common.{arith, ◌∙◌, sym}
use Rattle.bpf_verify.specs.Table.{is_marked}
use Rattle.bpf_verify.proofs.Bits.{not_missed}
use Rattle.bpf_verify.proofs.marks.Marks.misses.Goals as goal

pub loop-byte-preserved : goal.loop-byte-preserved
loop-byte-preserved c = not_missed (is_marked c.args.self.now) c.loop-byte.byte _ (omega arith) (sym c.has.ensures ∙ c.if-not-has.false) ∙ c.loop-byte.invariant
