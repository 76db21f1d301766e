use Rattle.std.proofs.Common.{◌≡◌, ◌≤◌, ◌-◌, ◌++◌}
use Rattle.bpf_insn.specs.declared.operands.Kind.TheVariants as kinds
use Rattle.entry_ops.specs.inner.IndexCalls.{index_calls}
use Rattle.entry_ops.proofs.index_calls.IndexCalls.gather.Given as goal

abbrev pub invariant-loop-left : goal.invariant-loop-left
invariant-loop-left l = record {
  kind : l.calls.kind ≡ kinds.Index;
  parts : l.fn.self ≡ l.calls.operands ++ index_calls l.self-inside.reader.grid l.self-inside.thunk l.row l.left l.self-inside.reader.row l.self-inside.end;
  rows : l.self-inside.end ≤ l.self-inside.reader.grid.rows;
}

abbrev pub decreases-loop-left : goal.decreases-loop-left
decreases-loop-left l = l.self-inside.end - l.self-inside.reader.row
