use Rattle.step_purse.proofs.Chains.{owes_most}
use Rattle.step_purse.proofs.laws.owed_is_bounded.Goals as goal

pub returns : goal.returns
returns c = owes_most
