use Rattle.std.proofs.Common.{◌≤◌, take}
use Rattle.entry_ops.proofs.Keeping.{IsKeeping}
use Rattle.entry_ops.proofs.select_buffer.put_values.Given as goal

abbrev pub invariant-loop-mark : goal.invariant-loop-mark
invariant-loop-mark l = record {
  few : l.many ≤ 64;
  keeping : IsKeeping l.marks l.values l.fn.rows l.mark-index l.next (take l.many l.selected) l.rows;
}
