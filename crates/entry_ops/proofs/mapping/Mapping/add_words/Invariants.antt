use Rattle.std.proofs.Common.{◌≡◌, ◌-◌, [], drop}
use Rattle.bpf_insn.specs.declared.operands.Kind.TheVariants as kinds
use Rattle.csr_store.specs.Valued.{all_cells, entries_of}
use Rattle.bpf_run.specs.Calls.{words_of}
use Rattle.entry_ops.proofs.Mapped.{IsMapping}
use Rattle.entry_ops.proofs.mapping.Mapping.add_words.Given as goal

abbrev pub invariant-loop-self : goal.invariant-loop-self
invariant-loop-self l = record {
  kind : l.calls.kind ≡ kinds.Unary;
  none : l.calls.operands ≡ [];
  mapping : IsMapping l.operator (words_of (all_cells l.fn.self.rows.run)) l.fn.self (words_of (drop l.self.rows.written (all_cells l.self.rows.run))) l.self;
  many : entries_of l.self.rows.run ≡ entries_of l.fn.self.rows.run;
}

abbrev pub decreases-loop-self : goal.decreases-loop-self
decreases-loop-self l = l.entries - l.self.rows.written
