-- Jobs: an operation of the GraphBLAS C API Specification 2.0 ("Operations") on matrices, with operators of the user's own. A job
-- has its form, with just the operators, the thunk and the operands that the form takes; a structural mask, or none; and the name
-- that its result will be bound to, which is this project's own.
use Rattle.std.specs.Prelude.{ℕ, List, Option}
use Rattle.bpf_verify.specs.Accepted.{Accepted}
use Rattle.csr_store.specs.Grid.{Grid}
use Rattle.job_plan.specs.declared.form.Form as declared
pub use Rattle.job_plan.specs.declared.form.Form.TheVariants.{Apply, Select, Union, Both, Product, Reduce}

-- a form of operators and matrices
abbrev pub Form : Type 0
Form = declared.Form Accepted Grid

pub record Job : Type 0 where
  pub form : Form
  pub mask : Option Grid
  pub output : List ℕ
