use Rattle.std.proofs.Common.{arith}
use Rattle.csr_store.proofs.Showing.{showing-start, showing-over, showing-mask_over, showing-end, showing-step, further_few}
use Rattle.csr_store.proofs.selected.add_shown.Goals as goal

pub loop-next-init : goal.loop-next-init
loop-next-init c = record {
  few = omega arith;
  beside_few = omega arith;
  capacity = omega arith;
  listed = λ n a b. showing-start _ _ _ n a b;
}

pub push_if-requires : goal.push_if-requires
push_if-requires c = record {
  capacity =
      let f = c.loop-next.invariant.few in
      let g = c.loop-next.invariant.beside_few in
      let l = c.loop-next-test.true in
      let u = c.if-beside-mask.true in
      let a = c.requires in
      let k = c.loop-next.invariant.capacity in
      omega (arith, f, g, l, u, a, k);
}

pub loop-next-smaller : goal.loop-next-smaller
loop-next-smaller c =
    let l = c.loop-next-test.true in
    let u = c.if-beside-mask.true in
    let f = (further_few _ _ _ _ _ _ _ _ (record { equal = c.from.ensures; left = c.from-next.ensures; right = c.from-beside.ensures })
    c.push_if.ensures.added).0 in
    omega (arith, l, u, f)

pub loop-next-preserved : goal.loop-next-preserved
loop-next-preserved c =
    let f = further_few _ _ _ _ _ _ _ _ (record { equal = c.from.ensures; left = c.from-next.ensures; right = c.from-beside.ensures })
    c.push_if.ensures.added in
    let a = c.loop-next.invariant.few in
    let b = c.loop-next.invariant.beside_few in
    let r = c.loop-next.invariant.capacity in
    let s = c.push_if.ensures.capacity in
    let p = f.1 in
    let q = f.2 in
    record {
      few = omega (arith, a, p);
      beside_few = omega (arith, b, q);
      capacity = omega (arith, r, s);
      listed = λ n x y. showing-step _ _ _ n _ _ _ (c.loop-next.invariant.listed n x y) c.loop-next-test.true c.if-beside-mask.true _ _ _
          (record { equal = c.from.ensures; left = c.from-next.ensures; right = c.from-beside.ensures }) c.push_if.ensures.word _
          c.push_if.ensures.added;
    }

pub returns-else-beside-mask-clause-added : goal.returns-else-beside-mask-clause-added
returns-else-beside-mask-clause-added c = λ n a b.
    let h = c.loop-next.invariant.listed n a b in
    showing-end _ _ _ n _ _ _ h (showing-mask_over _ _ _ n _ _ _ h (let u = c.if-beside-mask.false in omega (arith, u)))

pub returns-else-beside-mask-clause-capacity : goal.returns-else-beside-mask-clause-capacity
returns-else-beside-mask-clause-capacity c = c.loop-next.invariant.capacity

pub returns-after-loop-next-clause-added : goal.returns-after-loop-next-clause-added
returns-after-loop-next-clause-added c = λ n a b.
    let h = c.loop-next.invariant.listed n a b in
    showing-end _ _ _ n _ _ _ h (showing-over _ _ _ n _ _ _ h (let u = c.loop-next-test.false in omega (arith, u)))

pub returns-after-loop-next-clause-capacity : goal.returns-after-loop-next-clause-capacity
returns-after-loop-next-clause-capacity c = c.loop-next.invariant.capacity
