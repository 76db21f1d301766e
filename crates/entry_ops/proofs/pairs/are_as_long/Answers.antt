use Rattle.std.proofs.Common.{◌≡◌, ◌+◌, length, arith, subst, sym, inl, inr}
use Rattle.std.proofs.lemmas.Bool.{cases_eq, eqb-true}
use Rattle.csr_store.specs.Grid.{row_of}
use Rattle.csr_store.proofs.ByRow.{row_start-next}
use Rattle.csr_store.proofs.Order.{both_true}
use Rattle.csr_store.proofs.Starting.{start_at, start_inside}
use Rattle.entry_ops.proofs.pairs.are_as_long.Goals as goal

pub bounds-first-next : goal.bounds-first-next
bounds-first-next c =
    let w = c.requires.0 in
    let l = c.loop-i-test.true in
    start_inside c.args.a.now _ _ c.starts-first.ensures (omega (arith, l, w))

pub bounds-first-next-in-loop-i : goal.bounds-first-next-in-loop-i
bounds-first-next-in-loop-i c =
    let w = c.requires.0 in
    let l = c.loop-i-test.true in
    start_inside c.args.a.now _ _ c.starts-first.ensures (omega (arith, l, w))

pub offset_bounds-first-next : goal.offset_bounds-first-next
offset_bounds-first-next c =
    let w = c.requires.0 in
    let l = c.loop-i-test.true in
    let few = c.recall.ensures.rows_small in
    omega (arith, l, w, few)

pub offset_bounds-first-next-in-loop-i : goal.offset_bounds-first-next-in-loop-i
offset_bounds-first-next-in-loop-i c =
    let w = c.requires.0 in
    let l = c.loop-i-test.true in
    let few = c.recall.ensures.rows_small in
    omega (arith, l, w, few)

pub overflow_sub-same : goal.overflow_sub-same
overflow_sub-same c =
    let w = c.requires.0 in
    let l = c.loop-i-test.true in
    let s = start_at c.args.a.now _ c.loop-i.i c.starts-first.ensures (omega (arith, l, w)) in
    let t = start_at c.args.a.now _ (c.loop-i.i + 1) c.starts-first.ensures (omega (arith, l, w)) in
    let n = row_start-next c.args.a.now c.loop-i.i in
    omega (arith, s, t, n)

pub bounds-second-next : goal.bounds-second-next
bounds-second-next c =
    let w = c.requires.1 in
    let l = c.loop-i-test.true in
    start_inside c.args.b.now _ _ c.starts-second.ensures (omega (arith, l, w))

pub bounds-second-next-in-loop-i : goal.bounds-second-next-in-loop-i
bounds-second-next-in-loop-i c =
    let w = c.requires.1 in
    let l = c.loop-i-test.true in
    start_inside c.args.b.now _ _ c.starts-second.ensures (omega (arith, l, w))

pub offset_bounds-second-next : goal.offset_bounds-second-next
offset_bounds-second-next c =
    let w = c.requires.0 in
    let l = c.loop-i-test.true in
    let few = c.recall.ensures.rows_small in
    omega (arith, l, w, few)

pub offset_bounds-second-next-in-loop-i : goal.offset_bounds-second-next-in-loop-i
offset_bounds-second-next-in-loop-i c =
    let w = c.requires.0 in
    let l = c.loop-i-test.true in
    let few = c.recall.ensures.rows_small in
    omega (arith, l, w, few)

pub overflow_sub-same-in-loop-i : goal.overflow_sub-same-in-loop-i
overflow_sub-same-in-loop-i c =
    let w = c.requires.1 in
    let l = c.loop-i-test.true in
    let s = start_at c.args.b.now _ c.loop-i.i c.starts-second.ensures (omega (arith, l, w)) in
    let t = start_at c.args.b.now _ (c.loop-i.i + 1) c.starts-second.ensures (omega (arith, l, w)) in
    let n = row_start-next c.args.b.now c.loop-i.i in
    omega (arith, s, t, n)

pub loop-i-preserved : goal.loop-i-preserved
loop-i-preserved c =
    let a = c.args.a.now in
    let b = c.args.b.now in
    let i = c.loop-i.i in
    let v = c.requires.0 in
    let w = c.requires.1 in
    let m = c.loop-i-test.true in
    let s = start_at a _ i c.starts-first.ensures (omega (arith, m, v)) in
    let p = start_at a _ (i + 1) c.starts-first.ensures (omega (arith, m, v)) in
    let x = start_at b _ i c.starts-second.ensures (omega (arith, m, w)) in
    let y = start_at b _ (i + 1) c.starts-second.ensures (omega (arith, m, w)) in
    let n = row_start-next a i in
    let o = row_start-next b i in
    λ t k l u.
    let both = both_true c.loop-i.same _ t in
    let e = eqb-true _ _ both.1 in
    let here : length (row_of a i) ≡ length (row_of b i) = omega (arith, s, p, x, y, n, o, e) in
    elim (cases_eq k i) [
      | inl q ↦ subst (λ j. length (row_of a j) ≡ length (row_of b j)) (sym q) here
      | inr ne ↦ c.loop-i.invariant both.0 k l (omega (arith, u, ne))
    ]
