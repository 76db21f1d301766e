use Rattle.step_purse.proofs.Chains.{own_along, seen_along, share_kept}
use Rattle.step_purse.proofs.laws.calls_in_order.Goals as goal

pub returns-clause-own : goal.returns-clause-own
returns-clause-own c = own_along

pub returns-clause-seen : goal.returns-clause-seen
returns-clause-seen c = seen_along

pub returns-clause-share : goal.returns-clause-share
returns-clause-share c = share_kept
