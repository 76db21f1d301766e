use Rattle.std.proofs.Common.{rules}
use Rattle.step_purse.proofs.Steps.{asks}
use Rattle.step_purse.proofs.account.Account.ask.Goals as goal

pub load_as-words-requires : goal.load_as-words-requires
load_as-words-requires g c = (search rules, (search rules, (search rules, asks _ _ _ c.requires.seat.may)))
