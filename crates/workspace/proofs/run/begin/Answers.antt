use Rattle.workspace.proofs.Running.{declared_plan}
use Rattle.workspace.proofs.run.begin.Goals as goal

pub returns-clause-plan : goal.returns-clause-plan
returns-clause-plan c =
    declared_plan c.declare_outputs.new.matrices.declared c.take.result c.args.workspace.now.queue c.jobs.result.now c.take.ensures.plan c.jobs.ensures
    c.in_ok-declare_outputs.ensures.declared
