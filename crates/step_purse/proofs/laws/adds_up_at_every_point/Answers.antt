use Rattle.std.proofs.Common.{◌∙◌, arith}
use Rattle.step_purse.specs.Plain.{opened}
use Rattle.step_purse.proofs.Calls.{legal_front, legal_total}
use Rattle.step_purse.proofs.laws.adds_up_at_every_point.Goals as goal

pub returns : goal.returns
returns c = λ allowance history rest l. legal_total (opened allowance) history (legal_front (opened allowance) history rest l) ∙ (omega arith)
