use Rattle.std.proofs.Common.{◌≡◌, ◌-◌}
use Rattle.csr_store.specs.Mask.{mask_of}
use Rattle.entry_ops.proofs.Reducing.{IsReducing}
use Rattle.entry_ops.proofs.reduce.fill_in_blocks.Given as goal

abbrev pub invariant-loop-first : goal.invariant-loop-first
invariant-loop-first l = record {
  reducing : IsReducing l.operator l.a (mask_of l.fn.region.mask) l.fn.region.range.start l.fn.region.range.end l.fn.making
      l.first l.making;
  counted : l.folds.steps ≡ l.making.steps;
}

abbrev pub decreases-loop-first : goal.decreases-loop-first
decreases-loop-first l = l.fn.region.range.end - l.first
