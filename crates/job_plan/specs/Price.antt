-- The price of a job: the most steps that it may take, found from the numbers of entries of rows alone. This project's own.
use Rattle.std.specs.Prelude.{ℕ, ◌+◌, ◌*◌, ◌≤◌, List, [], ◌∷◌}
use Rattle.csr_store.specs.Along.{summed}
use Rattle.job_plan.specs.Job.{Job}
use Rattle.job_plan.specs.Costing.{costing}
use Rattle.job_plan.specs.Meaning.{row_count, steps_in, bound_in}

-- of row i
abbrev pub row_price : Job → ℕ → ℕ
row_price job i = (costing job.form).rounds job.mask i * (costing job.form).round

-- of the rows from `first` on, n of them
abbrev pub price_in : Job → ℕ → ℕ → ℕ
price_in job first n = summed (row_price job) first n

-- of the whole job
abbrev pub price_of : Job → ℕ
price_of job = price_in job 0 (row_count job)

abbrev pub total_price : List Job → ℕ
total_price [] = 0
total_price (job ∷ jobs) = price_of job + total_price jobs

-- whatever rows are taken, the calls for them take no more than their operators' lengths, and these no more than the price
pub record IsWithinPrice (job : Job) : Type 0 where
  pub steps : (first n : ℕ) → steps_in job first n ≤ bound_in job first n
  pub bound : (first n : ℕ) → bound_in job first n ≤ price_in job first n
