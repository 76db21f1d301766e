use Rattle.std.proofs.Common.{rules}
use Rattle.step_purse.proofs.Steps.{peeks}
use Rattle.step_purse.proofs.account.Account.look.Goals as goal

pub load_as-words-requires : goal.load_as-words-requires
load_as-words-requires g c = (search rules, (search rules, (search rules, peeks _ _ c.requires.may)))
