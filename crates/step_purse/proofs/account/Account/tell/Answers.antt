use Rattle.std.proofs.Common.{rules}
use Rattle.step_purse.proofs.Steps.{tells}
use Rattle.step_purse.proofs.account.Account.tell.Goals as goal

pub split_pass-requires : goal.split_pass-requires
split_pass-requires c = (search rules, (search rules, (search rules, tells _ _ c.requires.may)))
