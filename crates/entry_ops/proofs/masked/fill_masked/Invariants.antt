use Rattle.std.proofs.Common.{length, Some}
use Rattle.entry_ops.specs.inner.Forms.{form_of}
use Rattle.entry_ops.specs.inner.Placing.{Holds, standing}
use Rattle.entry_ops.specs.inner.Walking.{row_cells, row_calls}
use Rattle.entry_ops.proofs.Masks.{IsMasking}
use Rattle.entry_ops.proofs.masked.fill_masked.Given as goal

abbrev pub invariant-loop-shown : goal.invariant-loop-shown
invariant-loop-shown l = Holds l.operator l.emitter l.calls
    × IsMasking (form_of l.form) l.operator l.sides.row l.sides.columns
    (row_cells (form_of l.form) l.operator l.sides.row l.sides.columns l.sides.left.now l.sides.right.now (Some l.mask))
    (row_calls (form_of l.form) l.operator l.sides.row l.sides.columns l.sides.left.now l.sides.right.now (Some l.mask))
    (standing l.operator l.fn.emitter l.fn.calls) l.lefts l.rights l.masks (standing l.operator l.emitter l.calls)

abbrev pub decreases-loop-shown : goal.decreases-loop-shown
decreases-loop-shown l = length l.masks
