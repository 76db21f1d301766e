use Rattle.std.proofs.Common.{◌≡◌, [], length}
use Rattle.bpf_insn.specs.declared.operands.Kind.TheVariants as kinds
use Rattle.entry_ops.proofs.Mapped.{IsMapping}
use Rattle.entry_ops.proofs.mapping.Mapping.add_pairs.Given as goal

abbrev pub invariant-loop-pairs : goal.invariant-loop-pairs
invariant-loop-pairs l = record {
  kind : l.calls.kind ≡ kinds.Binary;
  none : l.calls.operands ≡ [];
  mapping : IsMapping l.operator l.fn.pairs l.fn.self l.pairs l.self;
}

abbrev pub decreases-loop-pairs : goal.decreases-loop-pairs
decreases-loop-pairs l = length l.pairs
