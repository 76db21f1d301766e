-- Why a job is refused, in the order in which the reasons are looked at. That operators and shapes have to fit is as in the
-- GraphBLAS C API Specification 2.0 ("Operations": domain and dimension mismatch); the limits are this project's own.
use Rattle.std.specs.Prelude.{◌≡◌, ℕ, Bool, true, ◌&&◌, not, nat_eq, nat_lt, if◌then◌else◌, List, codes}
use Rattle.std.specs.Prelude.{Option, None, Some, Result, Ok, Err}
use Rattle.csr_store.specs.Grid.{Grid, limit}
use Rattle.job_plan.specs.declared.error.JobError.{JobError}
use Rattle.job_plan.specs.declared.error.JobError.TheVariants.{WrongKind, WrongShapes, WrongMask, ResultTooLarge, PriceTooHigh}
use Rattle.job_plan.specs.Job.{Job}
use Rattle.job_plan.specs.Forms.{operation}
use Rattle.job_plan.specs.Costing.{costing}
use Rattle.job_plan.specs.Meaning.{row_count, column_count}
use Rattle.job_plan.specs.Price.{price_of}
use Rattle.job_plan.specs.Kept.{IsForm, IsMask}

-- the mask has these sizes, or there is none
abbrev pub has_shape : ℕ → ℕ → Option Grid → Bool
has_shape rows columns None = true
has_shape rows columns (Some mask) = nat_eq mask.rows rows && nat_eq mask.columns columns

-- the most steps that a job may cost
abbrev pub price_limit : ℕ
price_limit = 4294967296

abbrev pub job_fault : Job → Option JobError
job_fault job =
    if not (operation job.form).kinds then Some WrongKind
    else if not (operation job.form).shapes then Some WrongShapes
    else if not (has_shape (row_count job) (column_count job) job.mask) then Some WrongMask
    else if nat_lt limit ((costing job.form).entries job.mask) then Some ResultTooLarge
    else if nat_lt price_limit (price_of job) then Some PriceTooHigh
    else None

-- the job back, with its fault if it has one
abbrev pub answered : Job → Option JobError → Result Job (Job × JobError)
answered job None = Ok job
answered job (Some fault) = Err (job, fault)

-- a job that was not refused
pub record IsPriced (job : Job) : Type 0 where
  pub form : IsForm job.form
  pub mask : IsMask job.mask
  pub faultless : job_fault job ≡ None

-- how the rules are named to a user
abbrev pub rule_name : JobError → List ℕ
rule_name WrongKind = codes "J4"
rule_name WrongShapes = codes "J5"
rule_name WrongMask = codes "J9"
rule_name ResultTooLarge = codes "J7"
rule_name PriceTooHigh = codes "J8"
