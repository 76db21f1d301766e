use Rattle.std.proofs.Common.{◌≡◌, drop, take, map}
use Rattle.std.specs.Vec.Iter.{into_iter_items}
use Rattle.job_runner.specs.Batch.{AreResultsOf, result_of}
use Rattle.job_runner.specs.Chunk.{chunk_total}
use Rattle.job_runner.specs.inner.Pieces.{given_at, gives, listed}
use Rattle.job_runner.proofs.join.join_jobs.Given as goal

-- the pieces of the jobs that are left, and the results of those before
abbrev pub invariant-loop-job : goal.invariant-loop-job
invariant-loop-job l = record {
  left : given_at (into_iter_items l.completed_pieces) ≡ listed (gives (drop l.job-index l.jobs)) (chunk_total (drop l.job-index l.jobs));
  done : AreResultsOf (take l.job-index l.jobs) (map result_of l.results.items);
}
