use Rattle.command_text.specs.ReplyText.{whole}
use Rattle.workspace.specs.Workspace.{state_of}
use Rattle.session.proofs.Exchanging.{responds_plain}
use Rattle.session.proofs.answering.respond.Goals as goal

pub returns-in-Plain-clause-turn : goal.returns-in-Plain-clause-turn
returns-in-Plain-clause-turn g c =
    let old = state_of c.args.bench.now.workspace in
    let new = state_of c.answer.new.workspace in
    let turn = c.answer.ensures.turn in (
      turn.0,
      responds_plain old new c.in-Plain.command turn.0 (whole c.answer.new.reply) turn.1 c.args.received c.is_quit.result c.then_some.result c.in-Plain.is c.then_some.ensures
          c.is_quit.ensures,
      turn.2,
    )
