use Rattle.std.proofs.Common.{◌+◌, length}
use Rattle.entry_ops.specs.inner.Forms.{form_of}
use Rattle.entry_ops.specs.inner.Placing.{Holds, standing}
use Rattle.entry_ops.specs.inner.Walking.{cells_along, calls_along}
use Rattle.entry_ops.proofs.Merging.{IsMerging}
use Rattle.entry_ops.proofs.merge.fill_merged.Given as goal

abbrev pub invariant-loop-x : goal.invariant-loop-x
invariant-loop-x l = Holds l.operator l.emitter l.calls
    × IsMerging (form_of l.form) l.operator l.fn.sides.row l.fn.sides.columns (cells_along (form_of l.form) l.operator l.fn.sides)
    (calls_along (form_of l.form) l.operator l.fn.sides) (standing l.operator l.fn.emitter l.fn.calls) l.lefts l.rights
    (standing l.operator l.emitter l.calls)

abbrev pub decreases-loop-x : goal.decreases-loop-x
decreases-loop-x l = length l.lefts + length l.rights
