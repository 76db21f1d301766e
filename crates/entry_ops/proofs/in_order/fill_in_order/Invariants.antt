use Rattle.std.proofs.Common.{◌≡◌}
use Rattle.csr_store.specs.Mask.{mask_of}
use Rattle.entry_ops.proofs.Reducing.{IsReducing}
use Rattle.entry_ops.proofs.in_order.fill_in_order.Given as goal

abbrev pub invariant-loop-row : goal.invariant-loop-row
invariant-loop-row l = record {
  reads : l.reader ≡ record { grid = l.a; row = l.row };
  reducing : IsReducing l.operator l.a (mask_of l.fn.region.mask) l.fn.region.range.start l.fn.region.range.end l.fn.making
      l.row l.making;
}
