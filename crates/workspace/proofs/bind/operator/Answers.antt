use Rattle.std.proofs.Common.{subst}
use Rattle.command_text.specs.ReplyText.{whole}
use Rattle.workspace.specs.Workspace.{state_of}
use Rattle.workspace.specs.inner.Binds.{BindsCode}
use Rattle.workspace.proofs.Turning.{operator_taken}
use Rattle.workspace.proofs.bind.operator.Goals as goal

pub returns-in-Ok-clause-binds : goal.returns-in-Ok-clause-binds
returns-in-Ok-clause-binds c =
    operator_taken (state_of c.args.workspace.now) (state_of c.take_code.new.workspace) c.args.name.now c.args.kind.now c.in-Some-as_name.name.now c.args.body.items c.in-Ok.code.items _ c.in-Some.kind
    c.in-Some.ensures c.in-Some-as_name.ensures.0 c.in-Some-as_name.ensures.1 c.in-Ok.ensures.ok
    (subst (λ x. BindsCode (state_of c.args.workspace.now) c.in-Some-as_name.name.now c.in-Some.kind x (whole c.take_code.new.reply) (state_of c.take_code.new.workspace)) c.deref.ensures.value c.take_code.ensures.binds)
