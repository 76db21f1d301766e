use Rattle.std.proofs.Common.{◌≡◌, ◌≤◌, take}
use Rattle.std.specs.List.{AllByRecursion}
use Rattle.bpf_insn.specs.Spelling.{Fits}
use Rattle.bpf_insn.specs.Program.{slot_count}
use Rattle.bpf_insn.proofs.program.slots_of_all.Given as goal

abbrev pub invariant-loop-insn : goal.invariant-loop-insn
invariant-loop-insn l = record {
  count : l.slots ≡ slot_count (take l.insn-index l.insns);
  few : l.slots ≤ 4096;
  fits : AllByRecursion Fits (take l.insn-index l.insns);
}
