use Rattle.std.proofs.Common.{length, ap, ◌∙◌, arith}
use Rattle.job_plan.specs.inner.Chunks.{rows_from}
use Rattle.job_plan.proofs.Covering.{covers, rows_count}
use Rattle.job_plan.proofs.plan.Plan.chunks.Goals as goal

pub returns-clause-count : goal.returns-clause-count
returns-clause-count c =
    let same = ap length (c.self.invariant.2 ∙ ap (rows_from 0) c.self.view_is) in
    let all = rows_count c.args.self.now in
    omega (arith, same, all)

pub returns-clause-cover : goal.returns-clause-cover
returns-clause-cover c = covers
