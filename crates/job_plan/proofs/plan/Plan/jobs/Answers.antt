use Rattle.std.proofs.Common.{subst, List}
use Rattle.std.specs.List.{AllByRecursion}
use Rattle.job_plan.specs.Job.{Job}
use Rattle.job_plan.specs.Price.{IsWithinPrice}
use Rattle.job_plan.proofs.Steps.{all_within}
use Rattle.job_plan.proofs.plan.Plan.jobs.Goals as goal

pub returns-clause-within : goal.returns-clause-within
returns-clause-within c =
    subst (λ (jobs : List Job). AllByRecursion IsWithinPrice jobs) c.self.view_is (all_within _ c.self.invariant.0)
