use Rattle.std.proofs.Common.{min, ap, ◌∙◌}
use Rattle.job_plan.proofs.Sums.{adding_more}
use Rattle.job_plan.proofs.rows.filled_in.Goals as goal

pub loop-i-preserved : goal.loop-i-preserved
loop-i-preserved c =
    adding_more _ _ _ _ _ _ c.loop-i.invariant c.loop-i-test.true (c.min-filled.ensures ∙ ap (λ n. min n 1) c.count.ensures)
