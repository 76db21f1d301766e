use Rattle.std.proofs.Common.{arith}
use Rattle.entry_ops.proofs.Standing.{copying-start, copying-fits, copying-step, copying-end}
use Rattle.entry_ops.proofs.emitter.push_all.Goals as goal

pub loop-column-init : goal.loop-column-init
loop-column-init c = copying-start _ _ c.requires

pub push-requires-clause-within : goal.push-requires-clause-within
push-requires-clause-within c = (copying-fits _ _ _ _ c.loop-column.invariant _ c.loop-column-test.true).0

pub push-requires-clause-above : goal.push-requires-clause-above
push-requires-clause-above c = (copying-fits _ _ _ _ c.loop-column.invariant _ c.loop-column-test.true).1

pub loop-column-preserved : goal.loop-column-preserved
loop-column-preserved c = copying-step _ _ _ _ c.loop-column.invariant (0, 0) c.loop-column-test.true _ c.in_ok-push.ensures.pushed

pub returns : goal.returns
returns c = copying-end _ _ _ _ c.loop-column.invariant (let t = c.loop-column-test.false in omega (arith, t))
