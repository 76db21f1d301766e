use Rattle.std.proofs.Common.{◌≡◌, ◌<◌, ℕ}
use Rattle.std.specs.FinMap as fin
use Rattle.job_plan.proofs.columns.Copied.difference.Given as goal

abbrev pub invariant-loop-k : goal.invariant-loop-k
invariant-loop-k l = (j : ℕ) → j < l.k → fin.get l.self.cells (j, 0) ≡ fin.get l.other.cells (j, 0)
