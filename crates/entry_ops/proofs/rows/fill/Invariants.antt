use Rattle.csr_store.specs.Mask.{mask_of}
use Rattle.entry_ops.specs.inner.Forms.{form_of}
use Rattle.entry_ops.specs.inner.Placing.{Holds, standing}
use Rattle.entry_ops.specs.inner.Walking.{AreRead}
use Rattle.entry_ops.proofs.Filling.{IsFilling}
use Rattle.entry_ops.proofs.rows.fill.Given as goal

abbrev pub invariant-loop-row : goal.invariant-loop-row
invariant-loop-row l = Holds l.operator l.emitter l.calls
    × IsFilling (form_of l.form) l.operator l.sources.left.now (mask_of l.sources.right) (mask_of l.sources.mask) l.fn.range.start l.fn.range.end
    (standing l.operator l.fn.emitter l.fn.calls) l.row (standing l.operator l.emitter l.calls)
    × AreRead l.sources l.row l.operand_reader
