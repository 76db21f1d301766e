use Rattle.std.proofs.Common.{◌≡◌}
use Rattle.entry_ops.proofs.Paired.{IsGathering}
use Rattle.entry_ops.proofs.pairs.gather_each.Given as goal

abbrev pub invariant-loop-cell : goal.invariant-loop-cell
invariant-loop-cell l = record {
  next : l.next ≡ l.cell-index;
  gathering : IsGathering l.left l.right l.fn.calls l.cell-index l.calls;
}
