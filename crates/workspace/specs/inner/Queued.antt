-- What stands beside specs/Queued.antt for this crate's own modules and proofs.
use Rattle.std.specs.Prelude.{◌≤◌, ◌+◌, ℕ, List, [], ◌∷◌}
use Rattle.job_plan.specs.Job.{Job}
use Rattle.job_plan.specs.Price.{price_of}
use Rattle.job_runner.specs.Batch as batch

-- no job took more steps than its price
abbrev pub AreWithin : List Job → List batch.Result → Type 0
AreWithin [] results = Unit {0}
AreWithin (job ∷ jobs) [] = Unit {0}
AreWithin (job ∷ jobs) (e ∷ es) = (e.steps ≤ price_of job) × AreWithin jobs es

-- the steps of results
abbrev pub steps_sum : List batch.Result → ℕ
steps_sum [] = 0
steps_sum (e ∷ es) = e.steps + steps_sum es

-- each took no more steps than any job may cost
abbrev pub AreCheap : List batch.Result → Type 0
AreCheap [] = Unit {0}
AreCheap (e ∷ es) = (e.steps ≤ 4294967296) × AreCheap es
