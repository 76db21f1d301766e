-- The batch theorem: operators that were accepted, on all operands of their kind, are never stuck and exit with the value of the
-- instruction table in at most as many steps as they have instructions; a batch of jobs over them gives each job's matrix, position
-- by position, and spends no more than its calls times their operators' lengths. This project's own.
--
-- A job's matrix and steps are said by `value_of` and `cost_of` of an operator (bpf_run). The theorem names the law that these are
-- the value and the cost of the machine (bpf_insn), and that a job calls its operators on operands of their kinds.
use Rattle.std.specs.Prelude.{◌≡◌, ◌≤◌, true, List}
use Rattle.std.specs.List.{AllByRecursion}
use Rattle.bpf_verify.specs.Accepted.{Accepted, IsSound}
use Rattle.bpf_run.specs.Meaning.{AgreesWithMachine}
use Rattle.job_plan.specs.Forms.{operation}
use Rattle.job_plan.specs.Form.{operators_of}
use Rattle.job_plan.specs.Job.{Job}
use Rattle.job_plan.specs.Meaning.{steps_of_job, bound_of_job}
use Rattle.job_runner.specs.Batch.{Result, AreResultsOf}

-- on all operands of its kind the operator has a value, at a cost of at most its length, and is never stuck
abbrev pub IsNeverStuck : Accepted → Type 0
IsNeverStuck f = IsSound f.kind f.insns

-- the operators are of the kinds that the form takes
abbrev pub HasItsKinds : Job → Type 0
HasItsKinds job = (operation job.form).kinds ≡ true

-- the steps of all calls of a job are no more than the lengths of the operators called, added up
abbrev pub IsBounded : Job → Type 0
IsBounded job = steps_of_job job ≤ bound_of_job job

pub record BatchTheorem (jobs : List Job) (results : List Result) : Type 0 where
  pub operators : AllByRecursion (λ (job : Job). AllByRecursion IsNeverStuck (operators_of job.form)) jobs
  -- what a call of an operator gives and costs is what the machine gives and takes
  pub machine : AllByRecursion (λ (job : Job). AllByRecursion AgreesWithMachine (operators_of job.form)) jobs
  pub kinds : AllByRecursion HasItsKinds jobs
  -- each job's matrix and steps, in order of submission
  pub given : AreResultsOf jobs results
  pub bounds : AllByRecursion IsBounded jobs
