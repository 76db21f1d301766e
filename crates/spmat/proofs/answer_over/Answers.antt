use Rattle.spmat.proofs.Running.{asked_always, may_end}
use Rattle.spmat.proofs.answer_over.Goals as goal

pub returns : goal.returns
returns g c = may_end c.args.asked _ _ c.answer.result c.answer.ensures

pub answer-requires-clause-asked : goal.answer-requires-clause-asked
answer-requires-clause-asked g c = λ κs outlives. asked_always c.args.asked _
