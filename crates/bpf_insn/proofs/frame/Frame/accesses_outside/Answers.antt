use Rattle.std.proofs.Common.{rules}
use Rattle.bpf_insn.proofs.frame.Frame.accesses_outside.Goals as goal

pub returns-in_default : goal.returns-in_default
returns-in_default c = search rules

pub returns-in-Place : goal.returns-in-Place
returns-in-Place c = search rules

pub returns-in_default-content : goal.returns-in_default-content
returns-in_default-content c = search rules
