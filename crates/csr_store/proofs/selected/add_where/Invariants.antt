use Rattle.std.proofs.Common.{◌≤◌, vec_capacity}
use Rattle.csr_store.proofs.Appending.{AreKept}
use Rattle.csr_store.proofs.selected.add_where.Given as goal

abbrev pub invariant-loop-column : goal.invariant-loop-column
invariant-loop-column l = AreKept l.cells l.answers l.fn.selected.items l.column-index l.next l.selected.items (vec_capacity l.selected)
    × (vec_capacity l.fn.selected ≤ vec_capacity l.selected)
