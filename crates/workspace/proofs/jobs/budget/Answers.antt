use Rattle.std.proofs.Common.{[], ◌∷◌, refl}
use Rattle.step_purse.specs.declared.dealings.Dealing.TheVariants.{Observed}
use Rattle.workspace.proofs.jobs.budget.Goals as goal

pub returns-clause-turn : goal.returns-clause-turn
returns-clause-turn g c =
    λ state.
    let totals = c.totals-totals.result in
    (Observed totals ∷ [], (totals, refl, c.tell_budget.ensures, refl), (c.totals-totals.new.self, c.totals-totals.ensures.dealt, refl))
