use Rattle.std.proofs.Common.{◌-◌, arith}
use Rattle.job_plan.proofs.Rounds.{some_entries, folds_and_firsts}
use Rattle.job_plan.proofs.rows.folds_in.Goals as goal

pub filled_in-requires-clause-few : goal.filled_in-requires-clause-few
filled_in-requires-clause-few c =
    let few = some_entries c.args.a.now c.args.range.start (c.args.range.end - c.args.range.start) c.recall.ensures in
    let both = folds_and_firsts c.args.a.now c.args.range.start (c.args.range.end - c.args.range.start) in
    omega (arith, few, both)

pub overflow_sub-result : goal.overflow_sub-result
overflow_sub-result c =
    let both = folds_and_firsts c.args.a.now c.args.range.start (c.args.range.end - c.args.range.start) in
    let entries = c.count_in-entries.ensures in
    let filled = c.filled_in.ensures in
    omega (arith, both, entries, filled)

pub returns : goal.returns
returns c =
    let both = folds_and_firsts c.args.a.now c.args.range.start (c.args.range.end - c.args.range.start) in
    let entries = c.count_in-entries.ensures in
    let filled = c.filled_in.ensures in
    omega (arith, both, entries, filled)

pub returns-then-entries-eq0 : goal.returns-then-entries-eq0
returns-then-entries-eq0 c =
    let both = folds_and_firsts c.args.a.now c.args.range.start (c.args.range.end - c.args.range.start) in
    let entries = c.count_in-entries.ensures in
    let none = c.if-entries-eq0.true in
    omega (arith, both, entries, none)
