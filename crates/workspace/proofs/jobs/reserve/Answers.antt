use Rattle.std.proofs.Common.{ap, refl}
use Rattle.workspace.specs.State.{State}
use Rattle.workspace.specs.Workspace.{state_of}
use Rattle.workspace.proofs.Turning.{submits_took, submits_not, owed_more}
use Rattle.workspace.proofs.jobs.reserve.Goals as goal

pub returns-in-Took-clause-turn : goal.returns-in-Took-clause-turn
returns-in-Took-clause-turn g c =
    submits_took g.T.Steps.leads c.args.steps.now c.reserve.new.self (state_of c.args.workspace.now) (state_of c.submit-position.new.self)
    c.args.job c.price-amount.result _ c.price-amount.ensures.price c.in-Took.field-0 c.submit-position.result c.in-Took.ensures.dealt
    c.in-Took.ensures.reply c.submit-position.ensures.number c.queued.ensures c.submit-position.ensures.queue

pub returns-in-Took-clause-owed : goal.returns-in-Took-clause-owed
returns-in-Took-clause-owed g c =
    owed_more c.args.workspace.now.queue c.submit-position.new.self.queue c.args.job c.price-amount.result
    (g.T.Steps.owes c.args.steps.now) (g.T.Steps.owes c.reserve.new.self)
    (ap (λ (s : State). s.queue) c.submit-position.ensures.queue) c.price-amount.ensures.price (c.in-Took.ensures.took c.in-Took.field-0 refl)

pub returns-in-NotEnough-clause-turn : goal.returns-in-NotEnough-clause-turn
returns-in-NotEnough-clause-turn g c =
    submits_not g.T.Steps.leads c.args.steps.now c.reserve.new.self (state_of c.args.workspace.now) (state_of c.args.workspace.now)
    c.args.job c.price-amount.result _ c.price-amount.ensures.price c.in-NotEnough.left c.in-NotEnough.ensures.dealt c.refuse.ensures
