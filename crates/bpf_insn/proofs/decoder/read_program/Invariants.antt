use Rattle.std.proofs.Common.{◌≡◌, ◌≤◌, ◌+◌, ◌*◌, ◌%◌, List, length}
use Rattle.bpf_insn.specs.declared.insn.Insn.{Insn}
use Rattle.bpf_insn.specs.Program.{slot_count}
use Rattle.bpf_insn.proofs.Cutting.{IsCut, AreKept}
use Rattle.bpf_insn.proofs.decoder.read_program.Given as goal

abbrev pub invariant-loop-rest : goal.invariant-loop-rest
invariant-loop-rest l = record {
  before : List Insn;
  cut : IsCut l.code before l.rest;
  place : slot_count before ≡ l.slot;
  count : length before ≡ l.len;
  few : l.len ≤ l.slot;
  whole : length l.rest % 8 ≡ 0;
  left : 8 * l.slot + length l.rest ≡ length l.code;
  kept : AreKept l.cells before (length l.code);
}

abbrev pub decreases-loop-rest : goal.decreases-loop-rest
decreases-loop-rest l = length l.rest
