use Rattle.std.proofs.Common.{◌≡◌, vec_len}
use Rattle.bpf_insn.specs.Program.{slot_count}
use Rattle.bpf_verify.specs.inner.Pass.{IsExactBelow}
use Rattle.bpf_verify.proofs.typing.typed.Given as goal

abbrev pub invariant-loop-slot : goal.invariant-loop-slot
invariant-loop-slot l = (vec_len l.table ≡ slot_count l.program) × IsExactBelow l.slot l.program l.fn.entry l.table.items
