use Rattle.std.proofs.Common.{vec_capacity}
use Rattle.csr_store.proofs.OneEach.{AreEachKept}
use Rattle.csr_store.proofs.rows.Rows.selected_each.Given as goal

abbrev pub invariant-loop-column : goal.invariant-loop-column
invariant-loop-column l = AreEachKept l.a l.range.start l.range.end l.answers l.column-index l.next l.ends.items l.selected.items (vec_capacity l.selected)
    (vec_capacity l.ends)
