use Rattle.workspace.specs.Workspace.{state_of}
use Rattle.workspace.proofs.Turning.{assembly_taken}
use Rattle.workspace.proofs.bind.assembly.Goals as goal

pub returns-clause-binds : goal.returns-clause-binds
returns-clause-binds c =
    assembly_taken (state_of c.args.workspace.now) (state_of c.take_assembly.new.workspace) c.args.name.now c.args.kind.now c.in-Some-as_name.name.now c.args.body.now _ c.in-Some.kind
    c.in-Some.ensures c.in-Some-as_name.ensures.0 c.in-Some-as_name.ensures.1 c.take_assembly.ensures.binds
