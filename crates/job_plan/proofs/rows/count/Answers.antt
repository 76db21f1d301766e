use Rattle.std.proofs.Common.{◌+◌, arith}
use Rattle.csr_store.proofs.ByRow.{row_start-next}
use Rattle.csr_store.proofs.Starting.{start_at, start_inside}
use Rattle.job_plan.proofs.rows.count.Goals as goal

pub bounds-starts-i : goal.bounds-starts-i
bounds-starts-i c = let l = c.requires in start_inside c.args.a.now _ _ c.starts-starts.ensures (omega (arith, l))

pub bounds-starts-i-2 : goal.bounds-starts-i-2
bounds-starts-i-2 c = let l = c.requires in start_inside c.args.a.now _ _ c.starts-starts.ensures (omega (arith, l))

pub overflow_sub-result : goal.overflow_sub-result
overflow_sub-result c =
    let l = c.requires in
    let s = start_at c.args.a.now _ c.args.i c.starts-starts.ensures (omega (arith, l)) in
    let t = start_at c.args.a.now _ (c.args.i + 1) c.starts-starts.ensures (omega (arith, l)) in
    let n = row_start-next c.args.a.now c.args.i in
    omega (arith, s, t, n)

pub returns : goal.returns
returns c =
    let l = c.requires in
    let s = start_at c.args.a.now _ c.args.i c.starts-starts.ensures (omega (arith, l)) in
    let t = start_at c.args.a.now _ (c.args.i + 1) c.starts-starts.ensures (omega (arith, l)) in
    let n = row_start-next c.args.a.now c.args.i in
    omega (arith, s, t, n)
