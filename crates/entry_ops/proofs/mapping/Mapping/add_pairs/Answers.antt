use Rattle.std.proofs.Common.{◌∙◌}
use Rattle.entry_ops.proofs.Mapped.{mapping-start, mapping-entries, mapping-room, mapping-step}
use Rattle.entry_ops.proofs.mapping.Mapping.add_pairs.Goals as goal

pub loop-pairs-init : goal.loop-pairs-init
loop-pairs-init c = record {
  kind = c.requires.waits.begun ∙ c.requires.kind;
  none = c.requires.waits.none;
  mapping = mapping-start c.args.operator.now c.args.pairs c.args.self.now c.requires.capacity.entries c.requires.capacity.steps;
}

pub make-requires-clause-capacity : goal.make-requires-clause-capacity
make-requires-clause-capacity c = record {
  entries = mapping-entries c.args.operator.now _ _ _ c.gather.new.calls.operands _ _ c.loop-pairs.invariant.mapping
      c.gather.ensures.gathers.parts;
  steps = mapping-room c.args.operator.now _ _ _ c.gather.new.calls.operands _ _ c.loop-pairs.invariant.mapping
      c.gather.ensures.gathers.parts;
}

pub loop-pairs-preserved : goal.loop-pairs-preserved
loop-pairs-preserved c = record {
  kind = c.make.ensures.waits.begun ∙ (c.gather.ensures.gathers.kind ∙ c.loop-pairs.invariant.kind);
  none = c.make.ensures.waits.none;
  mapping = mapping-step c.args.operator.now _ _ _ c.gather.new.calls.operands _ _ c.loop-pairs.invariant.mapping
      c.gather.ensures.gathers.parts _ c.make.ensures.further;
}
