use Rattle.std.proofs.Common.{◌≡◌, [], length}
use Rattle.bpf_insn.specs.declared.operands.Kind.TheVariants as kinds
use Rattle.entry_ops.proofs.Mapped.{IsMapping}
use Rattle.entry_ops.proofs.mapping.Mapping.add_entries.Given as goal

abbrev pub invariant-loop-index_calls : goal.invariant-loop-index_calls
invariant-loop-index_calls l = record {
  kind : l.calls.kind ≡ kinds.Index;
  none : l.calls.operands ≡ [];
  mapping : IsMapping l.operator l.fn.index_calls l.fn.self l.index_calls l.self;
}

abbrev pub decreases-loop-index_calls : goal.decreases-loop-index_calls
decreases-loop-index_calls l = length l.index_calls
