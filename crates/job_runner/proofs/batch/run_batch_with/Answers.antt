use Rattle.std.proofs.Common.{ℕ, subst, map}
use Rattle.job_runner.specs.Batch.{result_of}
use Rattle.job_runner.specs.Whole.{IsRaced}
use Rattle.job_runner.proofs.Answering.{batch_gave, batch_broke}
use Rattle.job_runner.proofs.batch.run_batch_with.Goals as goal

pub returns-in-Ok : goal.returns-in-Ok
returns-in-Ok g c =
    let jobs = c.args.plan.now in
    let is = c.in-Ok.ensures.results in
    batch_gave c.args.workers jobs _ c.recall.ensures.priced c.recall.ensures.within is.0
    (subst (λ (n : ℕ). IsRaced n jobs (map result_of c.in-Ok.results.items)) c.crew_size-count.ensures.size is.1)

pub returns-in-Err : goal.returns-in-Err
returns-in-Err g c =
    batch_broke c.args.workers c.crew_size-count.result c.args.plan.now _ c.crew_size-count.ensures.few c.compute_results-outcome.ensures.spent c.in-Err.ensures.thread
