-- How a batch is concluded by what it answered: its dealings, its reply, and what the session then holds (this project's own).
use Rattle.std.specs.Prelude.{ℕ, List}
use Rattle.command_text.specs.Replies.{refusal_text, run_text}
use Rattle.job_plan.specs.Job.{Job}
use Rattle.job_runner.specs.Answers.{Said, Gave, Broke}
use Rattle.job_runner.specs.Batch.{total_steps}
use Rattle.step_purse.specs.declared.dealings.Dealing.{Dealing}
use Rattle.workspace.specs.State.{State}
use Rattle.workspace.specs.Turn.{all_bound, batch_refusal, charged, job_lines, settled}

-- each price is settled with its job's steps; or the steps of a batch that broke off are charged to its jobs in order
abbrev pub dealings_of : List Job → Said → List Dealing
dealings_of jobs (Gave results) = settled jobs results
dealings_of jobs (Broke why spent) = charged jobs spent

-- a line for each job; or why the batch broke off, with its steps
abbrev pub text_of : List Job → Said → List ℕ
text_of jobs (Gave results) = run_text (total_steps jobs) (job_lines jobs results)
text_of jobs (Broke why spent) = refusal_text (batch_refusal why spent)

-- the outputs are bound; or all is as before
abbrev pub state_after : State → List Job → Said → State
state_after old jobs (Gave results) = record old { matrices = all_bound old.matrices jobs results }
state_after old jobs (Broke why spent) = old
