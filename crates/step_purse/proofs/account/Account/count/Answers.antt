use Rattle.std.proofs.Common.{rules}
use Rattle.step_purse.proofs.Steps.{counts}
use Rattle.step_purse.proofs.account.Account.count.Goals as goal

pub load_as-words-requires : goal.load_as-words-requires
load_as-words-requires g c = (search rules, (search rules, (search rules, counts _ _ c.requires.may)))
