-- What the names of a job stand for, as it is lent (this project's own).
use Rattle.std.specs.Prelude.{ℕ, List, Option}
use Rattle.std.specs.Option.{option_map}
use Rattle.std.specs.Arc.{arc_value}
use Rattle.std.specs.declared.sync.Arc.{Arc}
use Rattle.std.specs.declared.alloc.Global.{Global}
use denote.Ref.{Bor}
use Rattle.csr_store.specs.Grid.{Grid}
use Rattle.bpf_verify.specs.Accepted.{Accepted}
use Rattle.job_plan.specs.Form.{mapped}
use Rattle.job_plan.specs.Job.{Form, Job}
use Rattle.job_plan.specs.declared.form.Form as forms
use Rattle.workspace.specs.declared.found.FoundJob.{FoundJob}

abbrev pub lent_operator : Bor (Arc Accepted Global) → Accepted
lent_operator lent = arc_value lent.now

abbrev pub lent_matrix : Bor (Arc Grid Global) → Grid
lent_matrix lent = arc_value lent.now

abbrev pub lent_form : forms.Form (Bor (Arc Accepted Global)) (Bor (Arc Grid Global)) → Form
lent_form = mapped lent_operator lent_matrix

abbrev pub lent_mask : Option (Bor (Arc Grid Global)) → Option Grid
lent_mask = option_map lent_matrix

abbrev pub lent_job : List ℕ → FoundJob → Job
lent_job output found = record { form = lent_form found.form; mask = lent_mask found.mask; output = output }
