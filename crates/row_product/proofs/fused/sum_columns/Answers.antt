use Rattle.std.proofs.Common.{◌≡◌, ◌+◌, None, Some, length, drop, refl, subst, arith}
use Rattle.std.proofs.lemmas.List.{drop_all}
use Rattle.row_product.specs.inner.StandIn.{cells_with}
use Rattle.row_product.proofs.Column.{SumsUp, sums_up_starts, sums_up_ends}
use Rattle.row_product.proofs.StandIn.{length_listed, many_words, named_row, not_empty, sums_up_next}
use Rattle.row_product.proofs.fused.sum_columns.Goals as goal

pub bounds-words-columns : goal.bounds-words-columns
bounds-words-columns g c =
    let f = c.args.factors.now in
    let js = c.args.columns.now in
    let l = not_empty c.is_empty.result (length js) c.is_empty.ensures c.if-is_empty.false in
    let n = named_row f c.args.x js 0 c.requires.row l in
    let m = many_words f.b.now c.args.words.now c.requires.words in
    omega (arith, n, m)

pub loop-n-init : goal.loop-n-init
loop-n-init g c =
    let f = c.args.factors.now in
    let js = c.args.columns.now in
    let l = not_empty c.is_empty.result (length js) c.is_empty.ensures c.if-is_empty.false in
    let first = c.call_by-first in
    let row = cells_with c.args.x js in
    let none : 0 + first.result.steps ≡ first.result.steps = omega arith in
    subst (SumsUp f.add.now f.mul.now f.b.now row (drop 1 row) (Some first.result.value)) none
    (sums_up_next f c.args.x js c.args.words.now 0 None 0 first.result.value first.result.steps first.result.value first.result.steps
    c.requires.row c.requires.words l (sums_up_starts f.add.now f.mul.now f.b.now row) first.ensures.value first.ensures.steps refl
    (omega arith))

pub bounds-words-columns-in-loop-n : goal.bounds-words-columns-in-loop-n
bounds-words-columns-in-loop-n g c =
    let f = c.args.factors.now in
    let n = named_row f c.args.x c.args.columns.now c.loop-n.n c.requires.row c.loop-n-test.true in
    let m = many_words f.b.now c.args.words.now c.requires.words in
    omega (arith, n, m)

pub overflow_add-steps : goal.overflow_add-steps
overflow_add-steps g c =
    let f = c.args.factors.now in
    let term = c.call_by-term in
    let with = c.call_by-with in
    let next = sums_up_next f c.args.x c.args.columns.now c.args.words.now c.loop-n.n (Some c.loop-n.sum) c.loop-n.steps
    term.result.value term.result.steps with.result.value (term.result.steps + with.result.steps) c.requires.row c.requires.words
    c.loop-n-test.true c.loop-n.invariant term.ensures.value term.ensures.steps with.ensures.value
    (let s = with.ensures.steps in omega (arith, s)) in
    let few = next.few in
    let w = c.requires.row.few in
    omega (arith, few, w)

pub overflow_add-steps-in-loop-n : goal.overflow_add-steps-in-loop-n
overflow_add-steps-in-loop-n g c =
    let f = c.args.factors.now in
    let term = c.call_by-term in
    let with = c.call_by-with in
    let next = sums_up_next f c.args.x c.args.columns.now c.args.words.now c.loop-n.n (Some c.loop-n.sum) c.loop-n.steps
    term.result.value term.result.steps with.result.value (term.result.steps + with.result.steps) c.requires.row c.requires.words
    c.loop-n-test.true c.loop-n.invariant term.ensures.value term.ensures.steps with.ensures.value
    (let s = with.ensures.steps in omega (arith, s)) in
    let few = next.few in
    let w = c.requires.row.few in
    omega (arith, few, w)

pub loop-n-preserved : goal.loop-n-preserved
loop-n-preserved g c =
    let f = c.args.factors.now in
    let term = c.call_by-term in
    let with = c.call_by-with in
    sums_up_next f c.args.x c.args.columns.now c.args.words.now c.loop-n.n (Some c.loop-n.sum) c.loop-n.steps
    term.result.value term.result.steps with.result.value (term.result.steps + with.result.steps) c.requires.row c.requires.words
    c.loop-n-test.true c.loop-n.invariant term.ensures.value term.ensures.steps with.ensures.value
    (let s = with.ensures.steps in omega (arith, s))

pub returns : goal.returns
returns g c =
    let f = c.args.factors.now in
    let row = cells_with c.args.x c.args.columns.now in
    let many = length_listed c.args.x c.args.columns.now in
    let now = c.loop-n.invariant in
    let end = c.loop-n.auto.n-end in
    let t = c.loop-n-test.false in
    let none = drop_all c.loop-n.n row (omega (arith, many, t, end)) in
    let all = sums_up_ends f.add.now f.mul.now f.b.now row _ (Some c.loop-n.sum) c.loop-n.steps now none in
    let few = now.few in
    record { value = all.0; steps_are = all.1; little = omega (arith, few) }
