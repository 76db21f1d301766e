use Rattle.std.proofs.Common.{◌≡◌, ◌≤◌, ◌<◌, ◌+◌, ◌-◌, ◌%◌}
use Rattle.row_product.specs.inner.Sums.{slot}
use Rattle.row_product.proofs.Bits.{Reading}
use Rattle.row_product.proofs.Putting.{Putting}
use Rattle.row_product.proofs.emit.emit_marked.Given as goal

abbrev pub decreases-loop-next : goal.decreases-loop-next
decreases-loop-next l = l.columns - l.next

abbrev pub invariant-loop-next : goal.invariant-loop-next
invariant-loop-next l = record {
  putting : Putting l.fn.rows.columns (slot l.dense) l.fn.rows l.next l.rows;
  within : l.next ≤ l.columns;
  aligned : l.next < l.columns → l.next % 64 ≡ 0;
}

abbrev pub decreases-loop-left : goal.decreases-loop-left
decreases-loop-left l = l.end - l.next

abbrev pub invariant-loop-left : goal.invariant-loop-left
invariant-loop-left l = record {
  reading : Reading l.fn.rows.columns (slot l.dense) l.fn.rows l.end l.next l.left l.rows;
  narrow : l.end ≤ l.next + 64;
}
