use Rattle.std.proofs.Common.{map, length, refl, sym, ap, ◌∙◌, arith}
use Rattle.std.proofs.Math.Path.{fun_ext}
use Rattle.command_text.specs.Replies.{run_text}
use Rattle.job_runner.specs.Batch.{result_of, total_steps}
use Rattle.workspace.specs.inner.Outputs.{grid_at}
use Rattle.workspace.specs.inner.Queued.{steps_sum}
use Rattle.workspace.specs.Turn.{all_bound, job_lines}
use Rattle.workspace.specs.Workspace.{state_of}
use Rattle.workspace.proofs.Running.{as_many, same_state, within_prices, cheap_results, total_is}
use Rattle.workspace.proofs.run.finish.Goals as goal

pub settle_all-requires-clause-results : goal.settle_all-requires-clause-results
settle_all-requires-clause-results g c = (
  ap length c.jobs-jobs.ensures.jobs ∙ (as_many c.args.plan.now c.args.answer.results.items c.requires.plan.2 ∙ sym (ap length c.deref.ensures.value)),
  rw (c.jobs-jobs.ensures.jobs, c.deref.ensures.value)
      (within_prices c.args.plan.now (map result_of c.args.answer.results.items) c.requires.plan.2 c.jobs-jobs.ensures.within),
)

pub total-requires-clause-few : goal.total-requires-clause-few
total-requires-clause-few g c =
    let items = ap length c.deref-3.ensures.value in
    let many = as_many c.args.plan.now c.args.answer.results.items c.requires.plan.2 in
    let few = c.jobs-jobs.ensures.few in
    omega (arith, items, many, few)

pub total-requires-clause-cheap : goal.total-requires-clause-cheap
total-requires-clause-cheap g c =
    rw c.deref-3.ensures.value
    (cheap_results c.args.plan.now (map result_of c.args.answer.results.items) c.requires.plan.2 c.jobs-jobs.ensures.within c.jobs-jobs.ensures.priced)

pub report-requires-clause-same : goal.report-requires-clause-same
report-requires-clause-same g c =
    ap length c.jobs-jobs.ensures.jobs ∙ (as_many c.args.plan.now c.args.answer.results.items c.requires.plan.2 ∙ sym (ap length c.deref-2.ensures.value))

pub bind_all-requires-clause-same : goal.bind_all-requires-clause-same
bind_all-requires-clause-same g c =
    ap length c.jobs-jobs.ensures.jobs ∙ (as_many c.args.plan.now c.args.answer.results.items c.requires.plan.2 ∙ sym c.args.answer.results.ok.0)

pub returns-clause-turn : goal.returns-clause-turn
returns-clause-turn g c =
    let jobs = c.args.plan.now in
    let was = c.args.workspace.now in
    let results = map result_of c.args.answer.results.items in
    let spent = c.total.ensures ∙ ap (λ rs. steps_sum (map result_of rs)) c.deref-3.ensures.value ∙ total_is jobs results c.requires.plan.2 in (
      c.report.ensures ∙ ap (λ n. run_text n (job_lines c.jobs-jobs.result.now (map result_of c.deref-2.result.now))) spent
          ∙ ap (λ js. run_text (total_steps jobs) (job_lines js (map result_of c.deref-2.result.now))) c.jobs-jobs.ensures.jobs
          ∙ ap (λ rs. run_text (total_steps jobs) (job_lines jobs (map result_of rs))) c.deref-2.ensures.value,
      same_state (grid_at c.bind_all.new.matrices.declared) (all_bound (grid_at was.matrices.declared) c.args.plan.now results) (state_of was).operators
          was.queue was.queue was.workers (fun_ext (rw c.jobs-jobs.ensures.jobs at c.bind_all.ensures)) refl,
    )
