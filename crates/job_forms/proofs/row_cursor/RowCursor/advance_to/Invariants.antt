use Rattle.std.proofs.Common.{◌≡◌, ◌≤◌, ℕ, length}
use Rattle.csr_store.specs.Ascending.{Ascends, at}
use Rattle.job_forms.specs.inner.Cursor.{first_column}
use Rattle.job_forms.proofs.row_cursor.RowCursor.advance_to.Given as goal

abbrev pub invariant-loop-next : goal.invariant-loop-next
invariant-loop-next l = (l.next ≡ first_column l.cells)
    × ((n : ℕ) → Ascends 0 n l.fn.self → Ascends 0 n l.cells × ((j : ℕ) → l.column ≤ j → at l.fn.self j ≡ at l.cells j))

abbrev pub decreases-loop-next : goal.decreases-loop-next
decreases-loop-next l = length l.cells
