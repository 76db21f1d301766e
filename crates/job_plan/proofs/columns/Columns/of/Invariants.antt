use Rattle.std.proofs.Common.{◌≡◌, length}
use Rattle.job_plan.specs.inner.Copies.{AreFor}
use Rattle.job_plan.proofs.columns.Columns.of.Given as goal

abbrev pub invariant-loop-job : goal.invariant-loop-job
invariant-loop-job l = record { placed : AreFor l.jobs l.copies.items l.places; wide : length l.places ≡ 64 }
