use Rattle.std.proofs.Common.{sym, subst}
use Rattle.command_text.specs.ReplyText.{whole}
use Rattle.command_text.specs.Readings.{command_of}
use Rattle.workspace.specs.Turn.{Turn}
use Rattle.workspace.specs.Workspace.{state_of}
use Rattle.workspace.proofs.turn.answer.Goals as goal

pub returns-in-Budget-clause-turn : goal.returns-in-Budget-clause-turn
returns-in-Budget-clause-turn g c =
    let old = state_of c.args.workspace.now in
    let turn = c.budget.ensures.turn old in
    (turn.0, subst (λ command. Turn old (command_of command) turn.0 (whole c.budget.new.reply) old) (sym c.in-Budget.is) turn.1, turn.2)
