-- How a job is stored: with operators and operands that have several owners, and what holds of any. This project's own.
use Rattle.std.specs.Prelude.{Option, None, Some}
use Rattle.std.specs.Arc.{arc_value}
use Rattle.std.specs.List.{AllByRecursion}
use Rattle.std.specs.declared.alloc.Global.{Global}
use Rattle.std.specs.declared.sync.Arc.{Arc}
use Rattle.bpf_verify.specs.Accepted.{Accepted, IsAccepted}
use Rattle.csr_store.specs.Grid.{Grid, IsGrid}
use Rattle.job_plan.specs.declared.form.Form as declared
use Rattle.job_plan.specs.Form.{mapped, matrices_of, operators_of}
use Rattle.job_plan.specs.Job as is

abbrev pub form_of : declared.Form (Arc Accepted Global) (Arc Grid Global) → is.Form
form_of = mapped arc_value arc_value

-- the operators were accepted, and the operands are matrices
abbrev pub IsForm : is.Form → Type 0
IsForm form = AllByRecursion IsAccepted (operators_of form) × AllByRecursion IsGrid (matrices_of form)

-- the mask is a matrix, if there is one
abbrev pub IsMask : Option Grid → Type 0
IsMask None = Unit {0}
IsMask (Some mask) = IsGrid mask
