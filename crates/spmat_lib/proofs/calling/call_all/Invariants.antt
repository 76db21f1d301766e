use Rattle.std.proofs.Common.{◌≡◌, map, take}
use Rattle.bpf_run.specs.Meaning.{value_of, cost_of}
use Rattle.spmat_lib.specs.Calls.{operands_below}
use Rattle.spmat_lib.proofs.calling.call_all.Given as goal

abbrev pub invariant-loop-k : goal.invariant-loop-k
invariant-loop-k l = record {
  valued : take l.k l.values ≡ map (value_of l.operator) (operands_below l.kind l.operands l.k);
  stepped : take l.k l.steps ≡ map (cost_of l.operator) (operands_below l.kind l.operands l.k);
}
