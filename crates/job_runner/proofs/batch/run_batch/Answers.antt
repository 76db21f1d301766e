use Rattle.job_runner.proofs.batch.run_batch.Goals as goal

pub returns : goal.returns
returns g c =
    let is = c.run_batch_with.ensures in
    record {
      theorem = is.theorem;
      results = is.results;
      raced = is.raced;
      spent = is.spent;
      thread = is.thread;
      reported = is.reported;
    }
