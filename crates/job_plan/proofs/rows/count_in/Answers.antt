use Rattle.std.proofs.Common.{arith}
use Rattle.csr_store.proofs.Starting.{start_at, start_inside, start_rises}
use Rattle.job_plan.proofs.Rounds.{between}
use Rattle.job_plan.proofs.rows.count_in.Goals as goal

pub bounds-starts-range : goal.bounds-starts-range
bounds-starts-range c = start_inside c.args.a.now _ _ c.starts-starts.ensures c.requires

pub bounds-starts-range-2 : goal.bounds-starts-range-2
bounds-starts-range-2 c =
    let w = c.requires in
    let b = c.if-range.false in
    start_inside c.args.a.now _ _ c.starts-starts.ensures (omega (arith, w, b))

pub overflow_sub-result : goal.overflow_sub-result
overflow_sub-result c =
    let w = c.requires in
    let b = c.if-range.false in
    let s = start_at c.args.a.now _ c.args.range.start c.starts-starts.ensures (omega (arith, w, b)) in
    let e = start_at c.args.a.now _ c.args.range.end c.starts-starts.ensures w in
    let r = start_rises c.args.a.now c.args.range.start c.args.range.end (omega (arith, b)) in
    omega (arith, s, e, r)

pub returns : goal.returns
returns c =
    let w = c.requires in
    let b = c.if-range.false in
    let s = start_at c.args.a.now _ c.args.range.start c.starts-starts.ensures (omega (arith, w, b)) in
    let e = start_at c.args.a.now _ c.args.range.end c.starts-starts.ensures w in
    let r = between c.args.a.now c.args.range.start c.args.range.end (omega (arith, b)) in
    omega (arith, s, e, r)
