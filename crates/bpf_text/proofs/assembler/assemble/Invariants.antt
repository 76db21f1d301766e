use Rattle.std.proofs.Common.{◌≤◌, ◌+◌, length}
use Rattle.bpf_text.proofs.Assembling.{Progress}
use Rattle.bpf_text.proofs.assembler.assemble.Given as goal

abbrev pub invariant-loop-first : goal.invariant-loop-first
invariant-loop-first l = record {
  progress : Progress l.text l.rest l.line l.listing;
  room : l.line + length l.rest ≤ length l.text;
}

abbrev pub decreases-loop-first : goal.decreases-loop-first
decreases-loop-first l = length l.rest
