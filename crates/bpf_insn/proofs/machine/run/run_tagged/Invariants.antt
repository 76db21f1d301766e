use Rattle.bpf_insn.proofs.Runs.{IsUnderway}
use Rattle.bpf_insn.proofs.machine.run.run_tagged.Given as goal

abbrev pub invariant-loop-taken : goal.invariant-loop-taken
invariant-loop-taken l = IsUnderway l.program l.operands l.taken l.tagged
