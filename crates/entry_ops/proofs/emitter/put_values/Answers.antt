use Rattle.std.proofs.Common.{arith}
use Rattle.entry_ops.proofs.Placing.{placing-start, index-inside, entry-inside, placing-step, placing-end}
use Rattle.entry_ops.proofs.emitter.put_values.Goals as goal

pub loop-next-init : goal.loop-next-init
loop-next-init c = placing-start _ _ _ c.requires

pub bounds-indices-next : goal.bounds-indices-next
bounds-indices-next c = index-inside _ _ _ _ _ c.loop-next.invariant c.loop-next-test.true

pub set_value-requires : goal.set_value-requires
set_value-requires c = entry-inside _ _ _ _ _ c.loop-next.invariant c.loop-next-test.true

pub loop-next-preserved : goal.loop-next-preserved
loop-next-preserved c = placing-step _ _ _ _ _ c.loop-next.invariant c.loop-next-test.true _ c.set_value.ensures

pub returns : goal.returns
returns c = placing-end _ _ _ _ _ c.loop-next.invariant (let t = c.loop-next-test.false in omega (arith, t))
