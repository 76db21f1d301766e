use Rattle.std.proofs.Common.{◌≡◌, ◌≤◌, ◌+◌, ◌*◌, drop}
use Rattle.job_runner.specs.Crew.{total_work}
use Rattle.job_runner.proofs.size.add_work.Given as goal

abbrev pub invariant-loop-job : goal.invariant-loop-job
invariant-loop-job l = record {
  sum : l.sum + total_work (drop l.job-index l.jobs) ≡ total_work l.jobs;
  low : l.sum ≤ l.job-index * 8589934592;
}
