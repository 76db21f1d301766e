use Rattle.std.proofs.Common.{arith, vec_capacity}
use Rattle.csr_store.proofs.Appending.{are_kept_none, kept_step, are_kept}
use Rattle.csr_store.proofs.selected.add_where.Goals as goal

pub loop-column-init : goal.loop-column-init
loop-column-init c = (
  are_kept_none c.args.cells.now c.args.answers.now c.args.selected.now.items (vec_capacity c.args.selected.now)
      (λ u. c.requires.1 (let a = c.requires.0 in omega (arith, a, u))),
  omega arith,
)

pub bounds-answers-next : goal.bounds-answers-next
bounds-answers-next c = let a = c.loop-column.invariant.0.at in let t = c.loop-column-test.true in omega (arith, a, t, c.requires.0)

pub push_if-requires : goal.push_if-requires
push_if-requires c = record { capacity = let f = c.loop-column.invariant.0.fits c.loop-column-test.true in omega (arith, f) }

pub loop-column-preserved : goal.loop-column-preserved
loop-column-preserved c = (
  kept_step c.args.cells.now c.args.answers.now c.args.selected.now.items c.loop-column.column-index c.loop-column.next c.loop-column.selected.items
      (vec_capacity c.loop-column.selected) (0, 0) c.loop-column.invariant.0 c.loop-column-test.true c.requires.0 c.push_if.ensures.word _ _ c.push_if.ensures.added c.push_if.ensures.capacity,
  let a = c.loop-column.invariant.1 in let b = c.push_if.ensures.capacity in omega (arith, a, b),
)

pub returns-clause-added : goal.returns-clause-added
returns-clause-added c = (are_kept _ _ _ _ _ _ _ c.loop-column.invariant.0 (let l = c.loop-column-test.false in omega (arith, l))).0

pub returns-clause-words : goal.returns-clause-words
returns-clause-words c = (are_kept _ _ _ _ _ _ _ c.loop-column.invariant.0 (let l = c.loop-column-test.false in omega (arith, l))).1

pub returns-clause-capacity : goal.returns-clause-capacity
returns-clause-capacity c = c.loop-column.invariant.1
