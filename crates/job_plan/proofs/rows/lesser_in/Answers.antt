use Rattle.std.proofs.Common.{◌-◌, min, ℕ, sym, ap, ◌∙◌, arith}
use Rattle.job_plan.specs.Costing.{count}
use Rattle.job_plan.proofs.Rounds.{blank_count, blank_sum, room_of}
use Rattle.job_plan.proofs.Sums.{adding_more}
use Rattle.job_plan.proofs.rows.lesser_in.Goals as goal
use Rattle.job_plan.proofs.rows.lesser_in.Goals.{then-is_blank-via-then-is_blank, then-is_blank-via-else-is_blank+then-is_blank-2}

pub returns-then-is_blank : goal.returns-then-is_blank
returns-then-is_blank c =
    let p = λ (i : ℕ). min (count c.args.a.now i) (count c.args.b.now i) in
    let from = c.args.range.start in
    let n = c.args.range.end - c.args.range.start in
    elim c.then-is_blank.branch [
      | then-is_blank-via-then-is_blank w ↦
          sym (blank_sum p c.args.a.now from n (c.is_blank.ensures.0 w.if-is_blank.true)
          (λ i e. let z = blank_count c.args.a.now i e in omega (arith, z)))
      | then-is_blank-via-else-is_blank+then-is_blank-2 w ↦
          sym (blank_sum p c.args.b.now from n (w.is_blank-else-is_blank.ensures.0 w.if-is_blank-2.true)
          (λ i e. let z = blank_count c.args.b.now i e in omega (arith, z)))
    ]

pub overflow_add-entries : goal.overflow_add-entries
overflow_add-entries c =
    let p = λ (i : ℕ). min (count c.args.a.now i) (count c.args.b.now i) in
    let more = c.min-entries.ensures ∙ ap (λ n. min n c.count-in-loop-i.result) c.count.ensures
    ∙ ap (λ n. min (count c.args.a.now c.loop-i.i) n) c.count-in-loop-i.ensures in
    let room = room_of p c.args.a.now c.args.range.start c.args.range.end c.loop-i.i c.loop-i.entries c.min-entries.result
    c.recall.ensures (λ i. omega arith) c.loop-i.invariant c.loop-i-test.true more in
    omega (arith, room)

pub loop-i-preserved : goal.loop-i-preserved
loop-i-preserved c =
    adding_more _ _ _ _ _ _ c.loop-i.invariant c.loop-i-test.true
    (c.min-entries.ensures ∙ ap (λ n. min n c.count-in-loop-i.result) c.count.ensures
    ∙ ap (λ n. min (count c.args.a.now c.loop-i.i) n) c.count-in-loop-i.ensures)
