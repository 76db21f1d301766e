use Rattle.std.proofs.Common.{arith, refl}
use Rattle.csr_store.proofs.Valuing.{set_none, set_more, set_all, set_is_valued}
use Rattle.csr_store.proofs.row.put_each.Goals as goal

pub loop-value-init : goal.loop-value-init
loop-value-init c = set_none c.args.from c.args.values.now c.args.cells.now

pub bounds-cells-entry : goal.bounds-cells-entry
bounds-cells-entry c = let p = c.loop-value.invariant.nth in let n = c.loop-value.invariant.count in let t = c.loop-value-test.true in let r = c.requires in omega (arith, p, n, t, r)

pub loop-value-preserved : goal.loop-value-preserved
loop-value-preserved c =
    let p = c.loop-value.invariant.nth in let n = c.loop-value.invariant.count in let t = c.loop-value-test.true in let r = c.requires in
    set_more c.args.from c.args.values.now c.args.cells.now c.loop-value.value-index c.loop-value.entry c.loop-value.cells _ _ c.loop-value.invariant t refl
    (set_is_valued c.loop-value.entry _ _ c.loop-value.cells (0, 0) (omega (arith, p, n, t, r)) refl)

pub returns : goal.returns
returns c = set_all c.args.from c.args.values.now c.args.cells.now _ c.loop-value.entry _ c.loop-value.invariant (let l = c.loop-value-test.false in omega (arith, l))
