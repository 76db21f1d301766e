use Rattle.step_purse.proofs.Chains.{owed_along, balance_along}
use Rattle.step_purse.proofs.laws.calls_in_order_are_owed.Goals as goal

pub returns-clause-owes : goal.returns-clause-owes
returns-clause-owes c = owed_along

pub returns-clause-balance : goal.returns-clause-balance
returns-clause-balance c = balance_along
