-- What a batch of jobs gives: for each job, in order of submission, its matrix and its steps. This project's own.
use Rattle.std.specs.Prelude.{◌≡◌, ℕ, ◌+◌, List, [], ◌∷◌, ◌++◌}
use Rattle.std.specs.Arc.{arc_value}
use Rattle.csr_store.specs.Grid.{Grid}
use Rattle.job_plan.specs.Job.{Job}
use Rattle.bpf_run.specs.Calls.{Call}
use Rattle.job_plan.specs.Meaning.{IsMatrixOf, row_count, calls_in, steps_of_job}
use Rattle.job_runner.specs.declared.answer.JobResult.{JobResult}

pub record Result : Type 0 where
  pub matrix : Grid
  pub steps : ℕ

-- the job's matrix, and the steps of all its calls
pub record IsResultOf (job : Job) (r : Result) : Type 0 where
  pub matrix : IsMatrixOf job r.matrix
  pub steps : r.steps ≡ steps_of_job job

-- one for each job, in order of submission
abbrev pub AreResultsOf : List Job → List Result → Type 0
AreResultsOf [] [] = Unit {0}
AreResultsOf [] (r ∷ rs) = ⊥
AreResultsOf (job ∷ jobs) [] = ⊥
AreResultsOf (job ∷ jobs) (r ∷ rs) = IsResultOf job r × AreResultsOf jobs rs

-- the steps of all calls of all jobs
abbrev pub total_steps : List Job → ℕ
total_steps [] = 0
total_steps (job ∷ jobs) = steps_of_job job + total_steps jobs

-- these calls
abbrev pub all_calls : List Job → List Call
all_calls [] = []
all_calls (job ∷ jobs) = calls_in job 0 (row_count job) ++ all_calls jobs

-- how an answer is read
abbrev pub result_of : JobResult → Result
result_of r = record { matrix = arc_value r.version; steps = r.steps }
