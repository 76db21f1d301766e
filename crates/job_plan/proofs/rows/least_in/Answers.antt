use Rattle.std.proofs.Common.{◌≡◌, ◌-◌, min, ℕ, sym, ap, ◌∙◌, arith}
use Rattle.job_plan.specs.Costing.{count}
use Rattle.job_plan.proofs.Rounds.{blank_count, blank_sum, room_of}
use Rattle.job_plan.proofs.Sums.{adding_more}
use Rattle.job_plan.proofs.rows.least_in.Goals as goal

pub returns-then-is_blank : goal.returns-then-is_blank
returns-then-is_blank c =
    let p = λ (i : ℕ). min (min (count c.args.a.now i) (count c.args.b.now i)) (count c.args.mask.now i) in
    sym (blank_sum p c.args.mask.now c.args.range.start (c.args.range.end - c.args.range.start)
    (c.is_blank.ensures.0 c.if-is_blank.true)
    (λ i e. let z = blank_count c.args.mask.now i e in omega (arith, z)))

pub overflow_add-entries : goal.overflow_add-entries
overflow_add-entries c =
    let p = λ (i : ℕ). min (min (count c.args.a.now i) (count c.args.b.now i)) (count c.args.mask.now i) in
    let x = c.count.ensures in
    let y = c.count-in-loop-i.ensures in
    let z = c.count-in-loop-i-2.ensures in
    let s = c.min.ensures in
    let t = c.min-entries.ensures in
    let more : c.min-entries.result ≡ min (min (count c.args.a.now c.loop-i.i) (count c.args.b.now c.loop-i.i))
    (count c.args.mask.now c.loop-i.i) = cc in
    let room = room_of p c.args.a.now c.args.range.start c.args.range.end c.loop-i.i c.loop-i.entries c.min-entries.result
    c.recall.ensures (λ i. omega arith) c.loop-i.invariant c.loop-i-test.true more in
    omega (arith, room)

pub loop-i-preserved : goal.loop-i-preserved
loop-i-preserved c =
    let x = c.count.ensures in
    let y = c.count-in-loop-i.ensures in
    let z = c.count-in-loop-i-2.ensures in
    let s = c.min.ensures in
    let t = c.min-entries.ensures in
    let more : c.min-entries.result ≡ min (min (count c.args.a.now c.loop-i.i) (count c.args.b.now c.loop-i.i))
    (count c.args.mask.now c.loop-i.i) = cc in
    adding_more _ _ _ _ _ _ c.loop-i.invariant c.loop-i-test.true more
