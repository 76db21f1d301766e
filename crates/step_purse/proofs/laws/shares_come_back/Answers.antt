use Rattle.step_purse.proofs.Shares.{whole_back}
use Rattle.step_purse.proofs.laws.shares_come_back.Goals as goal

pub returns : goal.returns
returns c = whole_back
