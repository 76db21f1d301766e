use Rattle.std.proofs.Common.{◌-◌, Some}
use Rattle.job_plan.specs.Costing.{count, if_passing}
use Rattle.job_plan.proofs.Sums.{IsAdding}
use Rattle.job_plan.proofs.rows.folds_under.Given as goal

abbrev pub invariant-loop-i : goal.invariant-loop-i
invariant-loop-i l = IsAdding (λ i. if_passing (Some l.mask) i (count l.a i - 1)) l.fn.range.start l.fn.range.end l.i l.folds
