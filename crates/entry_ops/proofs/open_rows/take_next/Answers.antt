use Rattle.std.proofs.Common.{◌≡◌, ◌+◌, ◌-◌, [], refl, subst, arith}
use Rattle.entry_ops.specs.inner.Folding.{in_two_columns}
use Rattle.entry_ops.specs.declared.open_rows.Lane.{Lane}
use Rattle.entry_ops.proofs.OpenRows.{none_left}
use Rattle.entry_ops.proofs.Giving.{IsGiving, giving-start, giving-number, giving-word, giving-result, giving-placed, giving-end}
use Rattle.entry_ops.proofs.open_rows.take_next.Goals as goal

-- what stands for a lane that isn't there
abbrev no_lane : Lane
no_lane = record { number = 0; rest = record { ref_ptr = (0, 0); now = [] } }

pub loop-i-init : goal.loop-i-init
loop-i-init c =
    giving-start c.args.results.now c.args.lanes.now c.args.so_far.now c.args.next.now c.requires.folds c.requires.words c.requires.lanes

pub loop-i-preserved-in-Some : goal.loop-i-preserved-in-Some
loop-i-preserved-in-Some c =
    let more : c.loop-i.i ≡ (c.loop-i.i - 1) + 1 = let t = c.loop-i-test.true in omega (arith, t) in
    giving-word _ _ (c.loop-i.i - 1) c.loop-i.left c.loop-i.lanes c.loop-i.so_far c.loop-i.next c.loop-i.results
    (subst (λ i. IsGiving (in_two_columns c.args.lanes.now c.args.so_far.now) c.args.results.now i c.loop-i.left c.loop-i.lanes c.loop-i.so_far
    c.loop-i.next c.loop-i.results) more c.loop-i.invariant)
    no_lane c.in-Some.first.now _ refl c.in-Some.ensures.cases.0

pub loop-i-preserved : goal.loop-i-preserved
loop-i-preserved c =
    let more : c.loop-i.i ≡ (c.loop-i.i - 1) + 1 = let t = c.loop-i-test.true in omega (arith, t) in
    giving-result _ _ (c.loop-i.i - 1) c.loop-i.left c.loop-i.lanes c.loop-i.so_far c.loop-i.next c.loop-i.results
    (subst (λ i. IsGiving (in_two_columns c.args.lanes.now c.args.so_far.now) c.args.results.now i c.loop-i.left c.loop-i.lanes c.loop-i.so_far
    c.loop-i.next c.loop-i.results) more c.loop-i.invariant)
    no_lane (none_left _ c.in_default.ensures.cases)

pub bounds-results-lanes : goal.bounds-results-lanes
bounds-results-lanes c =
    let more : c.loop-i.i ≡ (c.loop-i.i - 1) + 1 = let t = c.loop-i-test.true in omega (arith, t) in
    giving-number _ _ (c.loop-i.i - 1) c.loop-i.left c.loop-i.lanes c.loop-i.so_far c.loop-i.next c.loop-i.results
    (subst (λ i. IsGiving (in_two_columns c.args.lanes.now c.args.so_far.now) c.args.results.now i c.loop-i.left c.loop-i.lanes c.loop-i.so_far
    c.loop-i.next c.loop-i.results) more c.loop-i.invariant)
    no_lane

pub returns-clause-within : goal.returns-clause-within
returns-clause-within c = c.loop-i.invariant.fits

pub returns-clause-lanes : goal.returns-clause-lanes
returns-clause-lanes c =
    let done : c.loop-i.i ≡ 0 = let t = c.loop-i-test.false in omega (arith, t) in
    giving-placed _ _ c.loop-i.i c.loop-i.left c.loop-i.lanes c.loop-i.so_far c.loop-i.next c.loop-i.results c.loop-i.invariant done

pub returns-clause-gives : goal.returns-clause-gives
returns-clause-gives c =
    let done : c.loop-i.i ≡ 0 = let t = c.loop-i-test.false in omega (arith, t) in
    giving-end _ _ c.loop-i.i c.loop-i.left c.loop-i.lanes c.loop-i.so_far c.loop-i.next c.loop-i.results c.loop-i.invariant done

pub offset_bounds-results-lanes : goal.offset_bounds-results-lanes
offset_bounds-results-lanes c =
    let more : c.loop-i.i ≡ (c.loop-i.i - 1) + 1 = let t = c.loop-i-test.true in omega (arith, t) in
    let p = giving-number _ _ (c.loop-i.i - 1) c.loop-i.left c.loop-i.lanes c.loop-i.so_far c.loop-i.next c.loop-i.results
    (subst (λ i. IsGiving (in_two_columns c.args.lanes.now c.args.so_far.now) c.args.results.now i c.loop-i.left c.loop-i.lanes c.loop-i.so_far
    c.loop-i.next c.loop-i.results) more c.loop-i.invariant)
    no_lane in
    let f = c.requires.few in
    let r = c.loop-i.invariant.rows in
    omega (arith, p, f, r)
