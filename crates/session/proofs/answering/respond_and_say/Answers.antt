use Rattle.std.proofs.Common.{true, false, is_some, List, ℕ, ap, ◌∙◌, subst}
use Rattle.command_text.specs.ReplyText.{whole}
use Rattle.wire.specs.Sending.{Sent}
use Rattle.session.proofs.answering.respond_and_say.Goals as goal

pub returns-in-Ok-clause-reported : goal.returns-in-Ok-clause-reported
returns-in-Ok-clause-reported g c =
    let turn = c.respond-end.ensures.turn in
    let said = whole c.respond-end.new.bench.reply in (
      turn.0,
      said,
      turn.1,
      turn.2,
      subst (λ (ws : List ℕ). Sent true said (record { sink = g.W.Sink.state c.args.writer.now; waits = ws }) (record { sink = g.W.Sink.state c.say.new.writer; waits = c.say.new.output }))
          c.respond-end.ensures.output c.in-Ok.ensures.sent,
      λ e q. c.in-Ok.ensures.none (c.is_some.ensures ∙ ap is_some q),
    )

pub returns-in-Err-clause-reported : goal.returns-in-Err-clause-reported
returns-in-Err-clause-reported g c =
    let turn = c.respond-end.ensures.turn in
    let said = whole c.respond-end.new.bench.reply in (
      turn.0,
      said,
      c.respond-end.result,
      turn.1,
      turn.2,
      subst (λ (ws : List ℕ). Sent false said (record { sink = g.W.Sink.state c.args.writer.now; waits = ws }) (record { sink = g.W.Sink.state c.say.new.writer; waits = c.say.new.output }))
          c.respond-end.ensures.output c.in-Err.ensures.sent,
    )
