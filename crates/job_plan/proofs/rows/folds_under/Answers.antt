use Rattle.std.proofs.Common.{◌-◌, ℕ, Some, sym, arith}
use Rattle.job_plan.specs.Costing.{count, if_passing}
use Rattle.job_plan.proofs.Rounds.{blank_count, blank_if, blank_sum, passing_if, room_of}
use Rattle.job_plan.proofs.Sums.{adding_more}
use Rattle.job_plan.proofs.rows.folds_under.Goals as goal
use Rattle.job_plan.proofs.rows.folds_under.Goals.{then-is_blank-via-then-is_blank, then-is_blank-via-else-is_blank+then-is_blank-2}

pub returns-then-is_blank : goal.returns-then-is_blank
returns-then-is_blank c =
    let p = λ (i : ℕ). if_passing (Some c.args.mask.now) i (count c.args.a.now i - 1) in
    let from = c.args.range.start in
    let n = c.args.range.end - c.args.range.start in
    elim c.then-is_blank.branch [
      | then-is_blank-via-then-is_blank w ↦
          sym (blank_sum p c.args.a.now from n (c.is_blank.ensures.0 w.if-is_blank.true)
          (λ i e.
          let z = blank_count c.args.a.now i e in
          let l = passing_if (Some c.args.mask.now) i (count c.args.a.now i - 1) in
          omega (arith, z, l)))
      | then-is_blank-via-else-is_blank+then-is_blank-2 w ↦
          sym (blank_sum p c.args.mask.now from n (w.is_blank-else-is_blank.ensures.0 w.if-is_blank-2.true)
          (λ i e. blank_if c.args.mask.now i (count c.args.a.now i - 1) e))
    ]

pub overflow_add-folds : goal.overflow_add-folds
overflow_add-folds c =
    let p = λ (i : ℕ). if_passing (Some c.args.mask.now) i (count c.args.a.now i - 1) in
    let room = room_of p c.args.a.now c.args.range.start c.args.range.end c.loop-i.i c.loop-i.folds c.folds_of-folds.result
    c.recall.ensures
    (λ i. let l = passing_if (Some c.args.mask.now) i (count c.args.a.now i - 1) in omega (arith, l)) c.loop-i.invariant
    c.loop-i-test.true c.folds_of-folds.ensures in
    omega (arith, room)

pub loop-i-preserved : goal.loop-i-preserved
loop-i-preserved c = adding_more _ _ _ _ _ _ c.loop-i.invariant c.loop-i-test.true c.folds_of-folds.ensures
