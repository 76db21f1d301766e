use Rattle.std.proofs.Common.{◌≢◌, ◌<◌, ℕ, get_or}
use Rattle.csr_store.specs.Grid.{Grid}
use Rattle.job_plan.proofs.columns.find.Given as goal

abbrev pub invariant-loop-nth : goal.invariant-loop-nth
invariant-loop-nth l = (k : ℕ) (d : Grid) → k < l.nth → get_or l.copies k d ≢ l.column
