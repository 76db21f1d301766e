use Rattle.std.proofs.Common.{◌≡◌, Some, set, subst, arith}
use Rattle.std.proofs.lemmas.List.{drop_all}
use Rattle.bpf_run.specs.Calls.{steps_of}
use Rattle.row_product.specs.inner.Sums.{slot, added, added_calls}
use Rattle.row_product.proofs.StandIn.{column_at, is_adding_more, is_adding_ends}
use Rattle.row_product.proofs.dense_accumulator.add_to_each.Goals as goal

pub add-added-requires-clause-within : goal.add-added-requires-clause-within
add-added-requires-clause-within g c =
    let w = column_at c.args.term.now.word 0 _ c.args.columns.now c.loop-column.column-index c.requires.apart c.loop-column-test.true in
    let long = c.loop-column.invariant.long in
    let e = c.from.ensures in
    omega (arith, w, long, e)

pub overflow_add-steps : goal.overflow_add-steps
overflow_add-steps g c =
    let f = c.args.factors.now in
    let t = c.args.term.now in
    let was = c.loop-column.sums in
    let here = c.add-added in
    let next = is_adding_more f t c.args.sums.now c.args.columns.now c.loop-column.column-index was here.new.self c.loop-column.steps here.result
    c.requires.factors c.requires.term c.loop-column-test.true c.loop-column.invariant
    (subst (λ j. here.new.self ≡ set was j (Some (added f.add.now (slot was j) t.value))) c.from.ensures here.ensures.sum)
    (subst (λ j. here.result ≡ steps_of (added_calls f.add.now (slot was j) t.value)) c.from.ensures here.ensures.steps) in
    let few = next.few in
    let w = c.requires.few in
    let l = c.loop-column-test.true in
    omega (arith, few, w, l)

pub overflow_add-steps-in-loop-column : goal.overflow_add-steps-in-loop-column
overflow_add-steps-in-loop-column g c =
    let f = c.args.factors.now in
    let t = c.args.term.now in
    let was = c.loop-column.sums in
    let here = c.add-added in
    let next = is_adding_more f t c.args.sums.now c.args.columns.now c.loop-column.column-index was here.new.self c.loop-column.steps here.result
    c.requires.factors c.requires.term c.loop-column-test.true c.loop-column.invariant
    (subst (λ j. here.new.self ≡ set was j (Some (added f.add.now (slot was j) t.value))) c.from.ensures here.ensures.sum)
    (subst (λ j. here.result ≡ steps_of (added_calls f.add.now (slot was j) t.value)) c.from.ensures here.ensures.steps) in
    let few = next.few in
    let w = c.requires.few in
    let l = c.loop-column-test.true in
    omega (arith, few, w, l)

pub loop-column-preserved : goal.loop-column-preserved
loop-column-preserved g c =
    let f = c.args.factors.now in
    let t = c.args.term.now in
    let was = c.loop-column.sums in
    let here = c.add-added in
    is_adding_more f t c.args.sums.now c.args.columns.now c.loop-column.column-index was here.new.self c.loop-column.steps here.result
    c.requires.factors c.requires.term c.loop-column-test.true c.loop-column.invariant
    (subst (λ j. here.new.self ≡ set was j (Some (added f.add.now (slot was j) t.value))) c.from.ensures here.ensures.sum)
    (subst (λ j. here.result ≡ steps_of (added_calls f.add.now (slot was j) t.value)) c.from.ensures here.ensures.steps)

pub returns : goal.returns
returns g c =
    let f = c.args.factors.now in
    let t = c.loop-column-test.false in
    let end = c.loop-column.auto.column-index-end in
    is_adding_ends f c.args.term.now c.args.sums.now c.args.columns.now c.loop-column.column-index c.loop-column.sums c.loop-column.steps
    c.loop-column.invariant (drop_all c.loop-column.column-index c.args.columns.now (omega (arith, t, end))) (omega (arith, t, end))
