use Rattle.workspace.specs.Workspace.{state_of}
use Rattle.workspace.proofs.Running.{refused_before, concluded}
use Rattle.workspace.proofs.run.run.Goals as goal

pub returns-in_default-clause-turn : goal.returns-in_default-clause-turn
returns-in_default-clause-turn g c =
    refused_before g.T.Steps.leads c.args.steps.now c.break_off.new.steps (state_of c.args.workspace.now) (state_of c.begin.new.workspace)
    c.jobs.result.now c.clear.new.self _ c.in_default.ensures.unchanged c.jobs.ensures c.clear.ensures c.break_off.ensures.said c.break_off.ensures.dealt

pub returns-clause-turn : goal.returns-clause-turn
returns-clause-turn g c =
    let did = c.conclude.ensures in
    concluded g.T.Steps.leads c.args.steps.now c.conclude.new.steps (state_of c.args.workspace.now) (state_of c.begin.new.workspace)
    (state_of c.conclude.new.workspace) _ c.run_batch_with-answer.result _ c.in-Ok.ensures.plan.0 c.in-Ok.ensures.taken
    c.run_batch_with-answer.ensures did.dealt did.said did.left
