use Rattle.step_purse.specs.Plain.{opened}
use Rattle.step_purse.proofs.Calls.{owed_by_one}
use Rattle.step_purse.proofs.laws.one_caller_owes_what_is_reserved.Goals as goal

pub returns : goal.returns
returns c = λ allowance history l. owed_by_one (opened allowance) history l
