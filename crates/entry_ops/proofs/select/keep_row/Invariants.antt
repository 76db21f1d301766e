use Rattle.std.proofs.Common.{length, [], None, Some}
use Rattle.entry_ops.specs.inner.Forms.{Select}
use Rattle.entry_ops.specs.inner.SelectBuffer.{Holds, standing}
use Rattle.entry_ops.specs.inner.Walking.{form_row, form_row_calls}
use Rattle.entry_ops.proofs.Masks.{IsMasking}
use Rattle.entry_ops.proofs.select.keep_row.Given as goal

abbrev pub invariant-loop-shown : goal.invariant-loop-shown
invariant-loop-shown l = Holds l.operator l.sieve l.calls
    × IsMasking (Select l.thunk) l.operator l.row l.masked.a.now.columns
    (form_row (Select l.thunk) l.operator l.masked.a.now None (Some l.masked.mask.now) l.row)
    (form_row_calls (Select l.thunk) l.operator l.masked.a.now None (Some l.masked.mask.now) l.row)
    (standing l.operator l.fn.sieve l.fn.calls) l.cells [] l.masks
    (standing l.operator l.sieve l.calls)

abbrev pub decreases-loop-shown : goal.decreases-loop-shown
decreases-loop-shown l = length l.masks
