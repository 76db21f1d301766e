-- What a batch answers, from what its workers did.
use Rattle.std.proofs.Common.{◌≡◌, ◌<◌, ◌≤◌, ℕ, List, Ok, Err, map, arith}
use Rattle.std.specs.List.{AllByRecursion}
use Rattle.bpf_run.specs.Calls.{Charges}
use Rattle.job_plan.specs.Job.{Job}
use Rattle.job_plan.specs.Price.{IsWithinPrice}
use Rattle.job_plan.specs.Refusal.{IsPriced}
use Rattle.job_runner.specs.declared.answer.BatchAnswer.{BatchAnswer}
use Rattle.job_runner.specs.declared.answer.BatchFault.{BatchFault}
use Rattle.job_runner.specs.declared.answer.Cause.TheVariants.{Thread}
use Rattle.job_runner.specs.Answers.{IsBatch, gave, broke}
use Rattle.job_runner.specs.Batch.{AreResultsOf, result_of, all_calls}
use Rattle.job_runner.specs.Crew.{crew_of}
use Rattle.job_runner.specs.Whole.{IsRaced}
use Rattle.job_runner.proofs.Theorem.{theorem_of}

pub batch_gave : (workers : ℕ) (jobs : List Job) (a : BatchAnswer)
    → AllByRecursion IsPriced jobs → AllByRecursion IsWithinPrice jobs → AreResultsOf jobs (map result_of a.results.items)
    → IsRaced (crew_of workers jobs) jobs (map result_of a.results.items) → IsBatch workers jobs (Ok a)
batch_gave workers jobs a priced within are by = record {
  theorem = theorem_of jobs (map result_of a.results.items) priced within are;
  results = are;
  raced = by;
  spent = tt;
  thread = tt;
  reported = gave workers jobs (map result_of a.results.items) by;
}

pub batch_broke : (workers count : ℕ) (jobs : List Job) (f : BatchFault) → count ≤ workers → Charges (all_calls jobs) 0 f.spent
    → (f.cause ≡ Thread → 1 < count) → IsBatch workers jobs (Err f)
batch_broke workers count jobs f few spent thread =
    let several : f.cause ≡ Thread → 1 < workers = λ e. let m = thread e in omega arith in
    record {
      theorem = tt;
      results = tt;
      raced = tt;
      spent = spent;
      thread = several;
      reported = broke workers jobs f.cause f.spent spent several;
    }
