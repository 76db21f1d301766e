use Rattle.std.proofs.Common.{◌≡◌, ◌+◌, map, length}
use Rattle.std.specs.Iterator.Adapters.{zip_first, zip_second}
use Rattle.std.specs.Slice.Iter.{iter_rest}
use Rattle.job_runner.specs.Batch.{result_of}
use Rattle.workspace.specs.inner.Queued.{AreWithin}
use Rattle.step_budget.specs.Budget.{Deals}
use Rattle.job_plan.specs.Price.{total_price}
use Rattle.workspace.specs.Turn.{settled}
use Rattle.workspace.proofs.run.settle_all.Given as goal

abbrev pub invariant-loop-job : goal.invariant-loop-job
invariant-loop-job g l = record {
  can_next : (goal.iterator-loop-job g).can_next l.job-iterator;
  is_finite : (goal.iterator-loop-job g).is_finite l.job-iterator;
  same : length (iter_rest (zip_first l.job-iterator)) ≡ length (iter_rest (zip_second l.job-iterator));
  within : AreWithin (iter_rest (zip_first l.job-iterator)) (map result_of (iter_rest (zip_second l.job-iterator)));
  dealt : (last : _)
      → Deals g.T.Steps.leads l.steps (settled (iter_rest (zip_first l.job-iterator)) (map result_of (iter_rest (zip_second l.job-iterator)))) last
      → Deals g.T.Steps.leads l.fn.steps (settled l.jobs (map result_of l.results)) last;
  owed : g.T.Steps.owes l.steps + total_price l.jobs ≡ g.T.Steps.owes l.fn.steps + total_price (iter_rest (zip_first l.job-iterator));
}
