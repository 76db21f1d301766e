use Rattle.std.proofs.Common.{◌+◌, None, drop, take, map, subst, sym, ◌∙◌}
use Rattle.job_runner.specs.Batch.{AreResultsOf, result_of}
use Rattle.std.specs.Vec.Iter.{into_iter_items}
use Rattle.job_runner.specs.Chunk.{chunks_in, chunk_total}
use Rattle.job_runner.specs.inner.Pieces.{given_at, gives, job_gives, listed}
use Rattle.job_runner.proofs.Listed.{begins-append, drop-listed}
use Rattle.job_runner.proofs.Joined.{front-listed, done-more}
use Rattle.job_runner.proofs.join.join_jobs.Goals as goal

pub join_job-requires : goal.join_job-requires
join_job-requires c =
    let jobs = c.jobs-jobs.result.now in
    let job = c.job-item.result in
    let given = given_at (into_iter_items c.loop-job.completed_pieces) in
    begins-append (job_gives job) (chunks_in job) given _
    (front-listed job_gives None jobs job c.loop-job.job-index given c.loop-job-test.true c.job-item.is c.loop-job.invariant.left)

pub loop-job-preserved : goal.loop-job-preserved
loop-job-preserved c =
    let jobs = c.jobs-jobs.result.now in
    let job = c.job-item.result in
    let given = given_at (into_iter_items c.loop-job.completed_pieces) in
    record {
      left = c.in_ok-join_job.ensures.left
          ∙ drop-listed (job_gives job) (chunks_in job) given (listed (gives (drop (c.loop-job.job-index + 1) jobs))
          (chunk_total (drop (c.loop-job.job-index + 1) jobs)))
          (front-listed job_gives None jobs job c.loop-job.job-index given c.loop-job-test.true c.job-item.is
          c.loop-job.invariant.left);
      done = subst (λ rs. AreResultsOf (take (c.loop-job.job-index + 1) jobs) (map result_of rs)) (sym c.in_ok-push.ensures.items)
          (done-more jobs job c.loop-job.job-index c.loop-job.results.items c.in_ok-join_job.field-0 c.loop-job-test.true
          c.job-item.is
          c.loop-job.invariant.done c.in_ok-join_job.ensures.result);
    }
