use Rattle.std.proofs.Common.{◌≡◌, ◌≤◌, take, vec_capacity, vec_len}
use Rattle.bpf_insn.specs.Program.{slot_count}
use Rattle.bpf_insn.specs.inner.Program.{layout}
use Rattle.bpf_insn.proofs.program.lay.Given as goal

abbrev pub invariant-loop-insn : goal.invariant-loop-insn
invariant-loop-insn l = record {
  laid : l.cells.items ≡ layout (take l.insn-index l.insns);
  capacity : slot_count l.insns ≤ vec_capacity l.cells;
  len : vec_len l.cells ≡ slot_count (take l.insn-index l.insns);
}
