use Rattle.std.proofs.Common.{◌≡◌, ◌+◌, drop}
use Rattle.step_budget.specs.Budget.{Deals}
use Rattle.job_plan.specs.Price.{total_price}
use Rattle.workspace.specs.Turn.{charged}
use Rattle.workspace.proofs.run.charge_all.Given as goal

abbrev pub invariant-loop-job : goal.invariant-loop-job
invariant-loop-job g l = record {
  dealt : (last : _) → Deals g.T.Steps.leads l.steps (charged (drop l.job-index l.jobs) l.left) last
      → Deals g.T.Steps.leads l.fn.steps (charged l.jobs l.spent) last;
  owed : g.T.Steps.owes l.steps + total_price l.jobs ≡ g.T.Steps.owes l.fn.steps + total_price (drop l.job-index l.jobs);
}
