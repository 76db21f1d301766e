-- Definitions beside specs/Refusal.antt for this crate's own modules and proofs.
use Rattle.std.specs.Prelude.{◌≡◌, ◌≤◌, true}
use Rattle.csr_store.specs.Grid.{limit}
use Rattle.job_plan.specs.Job.{Job}
use Rattle.job_plan.specs.Forms.{operation}
use Rattle.job_plan.specs.Costing.{costing}
use Rattle.job_plan.specs.Meaning.{row_count, column_count}
use Rattle.job_plan.specs.Kept.{IsForm, IsMask}
use Rattle.job_plan.specs.Refusal.{has_shape}

-- all is right with a job but perhaps its price
pub record Passes (job : Job) : Type 0 where
  pub form : IsForm job.form
  pub mask : IsMask job.mask
  pub kinds : (operation job.form).kinds ≡ true
  pub shapes : (operation job.form).shapes ≡ true
  pub shape : has_shape (row_count job) (column_count job) job.mask ≡ true
  pub small : (costing job.form).entries job.mask ≤ limit
