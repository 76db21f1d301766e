use Rattle.step_purse.proofs.Chains.{alone_deals}
use Rattle.step_purse.proofs.laws.alone_is_answered_as_one_thread.Goals as goal

pub returns : goal.returns
returns c = alone_deals
