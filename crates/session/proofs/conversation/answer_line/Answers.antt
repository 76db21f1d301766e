use Rattle.std.proofs.Common.{◌≡◌, false, sym, ap, ◌∙◌, subst}
use Rattle.text_words.specs.Words.{words}
use Rattle.command_text.specs.Requests.{request}
use Rattle.command_text.specs.Readings.{request_of}
use Rattle.session.specs.Exchange.{behind}
use Rattle.session.proofs.Exchanging.{exchanged_answered, exchanged_fault, exchanged_from, heard_behind}
use Rattle.wire.specs.InputState.{Stream}
use Rattle.wire.specs.Sending.{Outgoing}
use Rattle.session.specs.NextCommand.{Waits, next_request}
use Rattle.session.specs.inner.Exchange.{LacksBody, MayAwait}
use Rattle.session.proofs.conversation.answer_line.Goals as goal

pub returns-in-Ok-clause-exchanged : goal.returns-in-Ok-clause-exchanged
returns-in-Ok-clause-exchanged g c =
    let line = c.args.desk.now.line.items in
    let leads = g.T.Steps.leads in
    let received = heard_behind _ _ (request_of c.parse.result) c.deref.result.now line c.in-Ok.received c.parse.ensures c.deref.ensures.value c.in-Ok.ensures.received.0 in
    let first = c.in-Ok.ensures.received.1 in
    let result = c.respond_and_say.result in
    exchanged_from leads (behind line) _ _ _ _ _ c.in-Ok.received received first _ result c.receive.ensures.unchanged
    (exchanged_answered leads (behind line) _ _ _ _ _ c.in-Ok.received received first result c.respond_and_say.ensures.reported)

pub returns-in-Err-clause-exchanged : goal.returns-in-Err-clause-exchanged
returns-in-Err-clause-exchanged g c =
    let line = c.args.desk.now.line.items in
    let new = c.receive.new.input in
    let same = c.parse.ensures ∙ ap (λ l. request (words l)) c.deref.ensures.value in
    exchanged_fault g.T.Steps.leads (behind line) _ _ _ _ _ _ _ c.receive.ensures.unchanged c.in-Err.fault _ (LacksBody (request_of c.parse.result) new)
    (λ bytes w. ap (λ r. next_request new.ended r bytes) (sym same) ∙ w) c.in-Err.ensures.received

pub receive-requires : goal.receive-requires
receive-requires g c =
    let s : Stream = record { source = g.R.Asked.state c.args.reader.now; held = c.args.desk.now.input } in
    let o : Outgoing = record { sink = g.W.Sink.state c.args.writer.now; waits = c.args.desk.now.bench.output } in
    let same = c.parse.ensures ∙ ap (λ l. request (words l)) c.deref.ensures.value in
    subst (λ r. MayAwait g.R.Asked.may_ask s o (λ bytes. next_request false r bytes ≡ Waits)) (sym same) c.requires.asked
