use Rattle.std.proofs.Common.{sym, subst}
use Rattle.command_text.specs.ReplyText.{whole}
use Rattle.command_text.specs.Readings.{header_of}
use Rattle.command_text.specs.Words.{kind_of_word}
use Rattle.workspace.specs.Workspace.{state_of}
use Rattle.workspace.specs.Binds.{Binds, BindsMatrix, BindsLines}
use Rattle.workspace.proofs.Turning.{binds_turn}
use Rattle.workspace.proofs.turn.answer_with_body.Goals as goal

pub returns-in-Matrix-clause-binds : goal.returns-in-Matrix-clause-binds
returns-in-Matrix-clause-binds c =
    let old = state_of c.args.workspace.now in
    let new = state_of c.matrix.new.workspace in
    subst (λ h. Binds old (header_of h) c.args.body.items (whole c.matrix.new.reply) new) (sym c.in-Matrix.is)
    (subst (λ b. BindsMatrix old c.in-Matrix.name.now b (whole c.matrix.new.reply) new) c.deref.ensures.value c.matrix.ensures.binds)

pub returns-in-Matrix-clause-turn : goal.returns-in-Matrix-clause-turn
returns-in-Matrix-clause-turn c =
    binds_turn (state_of c.args.workspace.now) (state_of c.matrix.new.workspace) (header_of c.args.header) c.args.body.items _ (returns-in-Matrix-clause-binds c)

pub returns-in-Op-clause-binds : goal.returns-in-Op-clause-binds
returns-in-Op-clause-binds c =
    let old = state_of c.args.workspace.now in
    let new = state_of c.operator.new.workspace in
    subst (λ h. Binds old (header_of h) c.args.body.items (whole c.operator.new.reply) new) (sym c.in-Op.is) c.operator.ensures.binds

pub returns-in-Op-clause-turn : goal.returns-in-Op-clause-turn
returns-in-Op-clause-turn c =
    binds_turn (state_of c.args.workspace.now) (state_of c.operator.new.workspace) (header_of c.args.header) c.args.body.items _ (returns-in-Op-clause-binds c)

pub returns-in-Asm-clause-binds : goal.returns-in-Asm-clause-binds
returns-in-Asm-clause-binds c =
    let old = state_of c.args.workspace.now in
    let new = state_of c.assembly.new.workspace in
    subst (λ h. Binds old (header_of h) c.args.body.items (whole c.assembly.new.reply) new) (sym c.in-Asm.is)
    (subst (λ b. BindsLines old c.in-Asm.name.now (kind_of_word c.in-Asm.kind.now) b (whole c.assembly.new.reply) new) c.deref-in-Asm.ensures.value c.assembly.ensures.binds)

pub returns-in-Asm-clause-turn : goal.returns-in-Asm-clause-turn
returns-in-Asm-clause-turn c =
    binds_turn (state_of c.args.workspace.now) (state_of c.assembly.new.workspace) (header_of c.args.header) c.args.body.items _ (returns-in-Asm-clause-binds c)
