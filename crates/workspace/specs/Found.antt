-- What the names of a job stand for (this project's own).
use Rattle.std.specs.Prelude.{ℕ, List, Option, None, Some}
use Rattle.csr_store.specs.Grid.{Grid}
use Rattle.command_text.specs.Requests.{Submission}
use Rattle.job_plan.specs.Form.{found, mask_found}
use Rattle.job_plan.specs.Job.{Form, Job}
use Rattle.workspace.specs.State.{State}

abbrev pub joined : List ℕ → Option Form → Option (Option Grid) → Option Job
joined output (Some form) (Some mask) = Some (record { form = form; mask = mask; output = output })
joined output (Some form) None = None
joined output None mask = None

-- the job that is submitted, with the operators and matrices that its names stand for now
abbrev pub job_found : State → Submission → Option Job
job_found old s = joined s.output (found old.operators old.matrices s.form) (mask_found old.matrices s.mask)
