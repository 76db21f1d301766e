use Rattle.std.proofs.Common.{◌≡◌, ◌<◌, ℕ, List, IsTrue, get_or}
use Rattle.workspace.specs.Names.{value_at}
use Rattle.workspace.specs.inner.Names.{is_declared}
use Rattle.job_plan.specs.Job.{Job}
use Rattle.workspace.proofs.run.declare_outputs.Given as goal

abbrev pub invariant-loop-job : goal.invariant-loop-job
invariant-loop-job l = record {
  declared : (k : ℕ) → k < l.job-index → (d : Job) → IsTrue (is_declared l.matrices.declared (get_or l.jobs k d).output);
  same : (name : List ℕ) → value_at l.matrices.declared name ≡ value_at l.fn.matrices.declared name;
}
