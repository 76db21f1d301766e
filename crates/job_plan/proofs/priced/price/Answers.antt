use Rattle.std.proofs.Common.{subst}
use Rattle.job_plan.specs.Price.{IsWithinPrice}
use Rattle.job_plan.proofs.Steps.{within_price}
use Rattle.job_plan.proofs.priced.price.Goals as goal

pub returns-clause-within : goal.returns-clause-within
returns-clause-within c = subst IsWithinPrice c.priced.view_is (within_price _ c.priced.invariant.0)
