use Rattle.std.proofs.Common.{None, Some}
use Rattle.entry_ops.specs.inner.SelectBuffer.{Holds, standing}
use Rattle.entry_ops.proofs.Filling.{IsFilling}
use Rattle.entry_ops.proofs.select.keep_rows.Given as goal
use Rattle.entry_ops.specs.inner.Forms.{Select}

abbrev pub invariant-loop-row : goal.invariant-loop-row
invariant-loop-row l = Holds l.operator l.sieve l.calls
    × IsFilling (Select l.thunk) l.operator l.masked.a.now None (Some l.masked.mask.now) l.fn.range.start l.fn.range.end
    (standing l.operator l.fn.sieve l.fn.calls) l.row (standing l.operator l.sieve l.calls)
