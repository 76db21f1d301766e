use Rattle.step_purse.proofs.Chains.{own_along}
use Rattle.step_budget.proofs.Drawings.{stays, gains}
use Rattle.step_budget.proofs.laws.calls_of_a_wallet.Goals as goal

pub returns-clause-purse : goal.returns-clause-purse
returns-clause-purse c = stays

pub returns-clause-leads : goal.returns-clause-leads
returns-clause-leads c = gains

pub returns-clause-own : goal.returns-clause-own
returns-clause-own c old ds new deals = own_along old.allowance old.known ds new.known (gains old ds new deals)
