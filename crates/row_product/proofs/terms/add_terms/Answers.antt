use Rattle.std.proofs.Common.{arith}
use Rattle.row_product.proofs.Summing.{summing_starts, summing_column, summing_fits, summing_more, summing_ends}
use Rattle.row_product.proofs.terms.add_terms.Goals as goal

pub loop-k-init : goal.loop-k-init
loop-k-init g c = summing_starts _ _ _ _

pub add-steps-requires-clause-within : goal.add-steps-requires-clause-within
add-steps-requires-clause-within g c = summing_column _ _ _ _ _ _ _ c.loop-k.invariant
    (0, 0) c.requires.terms.apart c.loop-k-test.true

pub overflow_add-steps : goal.overflow_add-steps
overflow_add-steps g c =
    let fits = summing_fits _ _ _ _ _ _ _ c.loop-k.invariant
    (0, 0) c.loop-k-test.true c.requires.terms.paired _ c.add-steps.ensures.steps in
    let capacity = c.requires.capacity in
    omega (arith, fits, capacity)

pub loop-k-preserved : goal.loop-k-preserved
loop-k-preserved g c =
    summing_more _ _ _ _ _ _ _ c.loop-k.invariant (0, 0) c.loop-k-test.true c.requires.terms.paired _ c.add-steps.ensures.steps _
    c.add-steps.ensures.sum

pub returns : goal.returns
returns g c =
    let all = summing_ends _ _ _ _ _ _ _ c.loop-k.invariant (let t = c.loop-k-test.false in omega (arith, t)) in
    record { sums = all.0; steps = all.1 }
