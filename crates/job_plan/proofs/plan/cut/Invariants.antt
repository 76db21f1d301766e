use Rattle.std.proofs.Common.{drop}
use Rattle.job_plan.proofs.Covering.{AreCut}
use Rattle.job_plan.proofs.plan.cut.Given as goal

abbrev pub invariant-loop-nth : goal.invariant-loop-nth
invariant-loop-nth l = AreCut l.jobs (drop l.nth l.jobs) l.nth l.chunks.items
