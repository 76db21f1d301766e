use Rattle.std.proofs.Common.{min}
use Rattle.job_plan.specs.Costing.{count}
use Rattle.job_plan.proofs.Sums.{IsAdding}
use Rattle.job_plan.proofs.rows.least_in.Given as goal

abbrev pub invariant-loop-i : goal.invariant-loop-i
invariant-loop-i l =
    IsAdding (λ i. min (min (count l.a i) (count l.b i)) (count l.mask i)) l.fn.range.start l.fn.range.end l.i l.entries
