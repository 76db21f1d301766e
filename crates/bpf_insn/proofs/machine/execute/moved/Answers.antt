use Rattle.std.proofs.Common.{arith}
use Rattle.std.proofs.lemmas.Grind.{common_steps}
use Rattle.bpf_insn.proofs.machine.execute.moved.Goals as goal

pub returns-in-Place : goal.returns-in-Place
returns-in-Place c = grind (arith, common_steps)
