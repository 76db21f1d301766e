use Rattle.entry_ops.specs.inner.Folding.{in_two_columns}
use Rattle.entry_ops.proofs.Giving.{IsGiving}
use Rattle.entry_ops.proofs.open_rows.take_next.Given as goal

abbrev pub invariant-loop-i : goal.invariant-loop-i
invariant-loop-i l = IsGiving (in_two_columns l.fn.lanes l.fn.so_far) l.fn.results l.i l.left l.lanes l.so_far l.next l.results
