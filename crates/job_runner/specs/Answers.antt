-- What a batch may answer that may have so many workers. This project's own.
use Rattle.std.specs.Prelude.{◌≡◌, ◌<◌, ℕ, List, map, IfOk, IfErr, Ok, Err}
use Rattle.std.specs.Prelude as std
use Rattle.bpf_run.specs.Calls.{Charges}
use Rattle.job_plan.specs.Job.{Job}
use Rattle.job_runner.specs.declared.answer.BatchAnswer.{BatchAnswer}
use Rattle.job_runner.specs.declared.answer.BatchFault.{BatchFault}
use Rattle.job_runner.specs.declared.answer.Cause.{Cause}
use Rattle.job_runner.specs.declared.answer.Cause.TheVariants.{Thread}
use Rattle.job_runner.specs.Batch.{Result, AreResultsOf, result_of, all_calls}
use Rattle.job_runner.specs.Crew.{crew_of}
use Rattle.job_runner.specs.Theorem.{BatchTheorem}
use Rattle.job_runner.specs.Whole.{IsRaced}

-- What a batch says: what each job gave, in order; or why it broke off, with the steps spent by then.
pub data Said : Type 0 where
  Gave : (results : List Result) → Said
  Broke : Cause → (spent : ℕ) → Said

abbrev pub said_of : std.Result BatchAnswer BatchFault → Said
said_of (Ok a) = Gave (map result_of a.results.items)
said_of (Err f) = Broke f.cause f.spent

-- What a batch of these jobs may say that may have so many workers: what a race gave of just as many as `crew_of` tells; or,
-- where it broke off, the steps of some of the calls, each taken at most once, and for lack of a thread only where it may have
-- several.
pub data MaySay : ℕ → List Job → Said → Type 0 where
  gave : (workers : ℕ) (jobs : List Job) (results : List Result)
      → IsRaced (crew_of workers jobs) jobs results → MaySay workers jobs (Gave results)
  broke : (workers : ℕ) (jobs : List Job) (why : Cause) (spent : ℕ) → Charges (all_calls jobs) 0 spent
      → (why ≡ Thread → 1 < workers) → MaySay workers jobs (Broke why spent)

-- all that is promised of a batch
pub record IsBatch (workers : ℕ) (jobs : List Job) (result : std.Result BatchAnswer BatchFault) : Type 0 where
  pub theorem : IfOk result (λ a. BatchTheorem jobs (map result_of a.results.items))
  pub results : IfOk result (λ a. AreResultsOf jobs (map result_of a.results.items))
  pub raced : IfOk result (λ a. IsRaced (crew_of workers jobs) jobs (map result_of a.results.items))
  pub spent : IfErr result (λ f. Charges (all_calls jobs) 0 f.spent)
  pub thread : IfErr result (λ f. f.cause ≡ Thread → 1 < workers)
  pub reported : MaySay workers jobs (said_of result)
