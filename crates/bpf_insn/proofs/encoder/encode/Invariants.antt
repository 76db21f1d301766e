use Rattle.std.proofs.Common.{◌≡◌}
use Rattle.bpf_insn.proofs.Encoding.{code_before}
use Rattle.bpf_insn.proofs.encoder.encode.Given as goal

abbrev pub invariant-loop-cell : goal.invariant-loop-cell
invariant-loop-cell l = l.code.items ≡ code_before l.cells l.cell-index
