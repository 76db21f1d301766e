use Rattle.job_plan.proofs.Covering.{IsCutting}
use Rattle.job_plan.proofs.plan.cut_job.Given as goal

abbrev pub invariant-loop-number : goal.invariant-loop-number
invariant-loop-number l = IsCutting l.nth l.job l.initial.chunks.items l.number l.chunks.items
