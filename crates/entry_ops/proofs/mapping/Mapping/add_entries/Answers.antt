use Rattle.std.proofs.Common.{◌∙◌}
use Rattle.entry_ops.proofs.Mapped.{mapping-start, mapping-entries, mapping-room, mapping-step}
use Rattle.entry_ops.proofs.mapping.Mapping.add_entries.Goals as goal

pub loop-index_calls-init : goal.loop-index_calls-init
loop-index_calls-init c = record {
  kind = c.requires.waits.begun;
  none = c.requires.waits.none;
  mapping = mapping-start c.args.operator.now c.args.index_calls c.args.self.now c.requires.capacity.entries c.requires.capacity.steps;
}

pub make-requires-clause-capacity : goal.make-requires-clause-capacity
make-requires-clause-capacity c = record {
  entries = mapping-entries c.args.operator.now _ _ _ c.gather.new.calls.operands _ _ c.loop-index_calls.invariant.mapping
      c.gather.ensures.gathers.parts;
  steps = mapping-room c.args.operator.now _ _ _ c.gather.new.calls.operands _ _ c.loop-index_calls.invariant.mapping
      c.gather.ensures.gathers.parts;
}

pub loop-index_calls-preserved : goal.loop-index_calls-preserved
loop-index_calls-preserved c = record {
  kind = c.make.ensures.waits.begun ∙ (c.gather.ensures.gathers.kind ∙ c.loop-index_calls.invariant.kind);
  none = c.make.ensures.waits.none;
  mapping = mapping-step c.args.operator.now _ _ _ c.gather.new.calls.operands _ _ c.loop-index_calls.invariant.mapping
      c.gather.ensures.gathers.parts _ c.make.ensures.further;
}
