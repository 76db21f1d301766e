-- The batch theorem, from what was priced.
use Rattle.std.proofs.Common.{List, [], ◌∷◌}
use Rattle.std.specs.List.{AllByRecursion}
use Rattle.bpf_run.specs.Meaning.{AgreesWithMachine}
use Rattle.bpf_run.proofs.Meaning.{agrees_with_machine}
use Rattle.bpf_verify.specs.Accepted.{Accepted, IsAccepted}
use Rattle.job_plan.specs.Form.{operators_of}
use Rattle.job_plan.specs.Job.{Job}
use Rattle.job_plan.specs.Meaning.{row_count}
use Rattle.job_plan.specs.Price.{IsWithinPrice}
use Rattle.job_plan.specs.Refusal.{IsPriced}
use Rattle.job_plan.proofs.Faults.{passes}
use Rattle.job_runner.specs.Batch.{Result, AreResultsOf}
use Rattle.job_runner.specs.Theorem.{IsNeverStuck, HasItsKinds, IsBounded, BatchTheorem}

sound_each : (fs : List Accepted) → AllByRecursion IsAccepted fs → AllByRecursion IsNeverStuck fs
sound_each [] h = tt
sound_each (f ∷ fs) h = (h.0.sound, sound_each fs h.1)

all_sound : (jobs : List Job) → AllByRecursion IsPriced jobs
    → AllByRecursion (λ (job : Job). AllByRecursion IsNeverStuck (operators_of job.form)) jobs
all_sound [] h = tt
all_sound (job ∷ jobs) h = (sound_each (operators_of job.form) h.0.form.0, all_sound jobs h.1)

agree_each : (fs : List Accepted) → AllByRecursion IsAccepted fs → AllByRecursion AgreesWithMachine fs
agree_each [] h = tt
agree_each (f ∷ fs) h = (agrees_with_machine f h.0, agree_each fs h.1)

all_agree : (jobs : List Job) → AllByRecursion IsPriced jobs
    → AllByRecursion (λ (job : Job). AllByRecursion AgreesWithMachine (operators_of job.form)) jobs
all_agree [] h = tt
all_agree (job ∷ jobs) h = (agree_each (operators_of job.form) h.0.form.0, all_agree jobs h.1)

all_kinds : (jobs : List Job) → AllByRecursion IsPriced jobs → AllByRecursion HasItsKinds jobs
all_kinds [] h = tt
all_kinds (job ∷ jobs) h = ((passes job h.0).kinds, all_kinds jobs h.1)

all_bounded : (jobs : List Job) → AllByRecursion IsWithinPrice jobs → AllByRecursion IsBounded jobs
all_bounded [] h = tt
all_bounded (job ∷ jobs) h = (h.0.steps 0 (row_count job), all_bounded jobs h.1)

pub theorem_of : (jobs : List Job) (results : List Result) → AllByRecursion IsPriced jobs → AllByRecursion IsWithinPrice jobs
    → AreResultsOf jobs results → BatchTheorem jobs results
theorem_of jobs results p w r = record {
  operators = all_sound jobs p;
  machine = all_agree jobs p;
  kinds = all_kinds jobs p;
  given = r;
  bounds = all_bounded jobs w;
}
