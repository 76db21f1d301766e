use Rattle.std.proofs.Common.{Ok, true, false, [], refl, ap, subst}
use Rattle.wire.specs.Fetching.{Fetched, IsLined}
use Rattle.wire.proofs.Sending.{sent_then}
use Rattle.command_text.specs.declared.rules.FatalRule.TheVariants.{LineTooLong}
use Rattle.session.specs.NextCommand.{next, next_of}
use Rattle.workspace.specs.Workspace.{state_of}
use Rattle.session.specs.Exchange.{Touched}
use Rattle.session.specs.inner.Exchange.{Tells, LacksLine}
use Rattle.session.specs.inner.Standing.{touched_at}
use Rattle.session.specs.declared.receiving.Received.TheVariants as h
use Rattle.session.proofs.Exchanging.{exchanged_then, exchanged_answered, exchanged_fault, exchanged_end, exchanged_stuck, told_stopped, heard_over, heard_end}
use Rattle.session.proofs.Asking.{behind_asked, line_asked}
use Rattle.wire.specs.InputState.{Stream}
use Rattle.wire.specs.Sending.{Outgoing}
use Rattle.session.proofs.conversation.exchange.Goals as goal

pub returns-in-Ok-Whole-clause-exchanged : goal.returns-in-Ok-Whole-clause-exchanged
returns-in-Ok-Whole-clause-exchanged g c =
    let line = c.receive_line.new.line.items in
    let t = c.receive_line.new.input in
    exchanged_then g.T.Steps.leads _ _ _ _ _ _ line
    (subst (λ l. Fetched 0 (record { source = g.R.Asked.state c.args.reader.now; held = c.args.desk.now.input }) (record { source = g.R.Asked.state c.receive_line.new.reader; held = t }) (IsLined (Ok l) line t))
    c.in-Ok-Whole.field-0-is c.in-Ok-Whole.ensures.received.0)
    c.in-Ok-Whole.ensures.received.1
    c.answer_line.result c.answer_line.ensures.exchanged

pub returns-in-Ok-Over-clause-exchanged : goal.returns-in-Ok-Over-clause-exchanged
returns-in-Ok-Over-clause-exchanged g c =
    exchanged_answered g.T.Steps.leads next _ _ _ _ _ (h.Stopped LineTooLong) (heard_over _ _ c.receive_line.new.line.items c.in-Ok-Over.field-0 c.in-Ok-Over.field-0-is c.in-Ok-Over.ensures.received.0)
    c.in-Ok-Over.ensures.received.1
    c.respond_and_say.result c.respond_and_say.ensures.reported

pub returns-in-Ok-Over-clause-less : goal.returns-in-Ok-Over-clause-less
returns-in-Ok-Over-clause-less g c =
    let was : Touched _ = record {
      budget = c.args.steps.now;
      out = record { sink = g.W.Sink.state c.receive_line.new.writer; waits = c.receive_line.new.output };
      state = state_of c.args.desk.now.bench.workspace;
    } in
    let now = touched_at c.respond_and_say.new.bench (g.W.Sink.state c.respond_and_say.new.writer) c.respond_and_say.new.steps in
    λ e. absurd (told_stopped g.T.Steps.leads was now LineTooLong (subst (λ r. Tells g.T.Steps.leads was now (h.Stopped LineTooLong) r) e c.respond_and_say.ensures.reported))

pub returns-in-Ok-clause-exchanged : goal.returns-in-Ok-clause-exchanged
returns-in-Ok-clause-exchanged g c =
    exchanged_end g.T.Steps.leads next _ _ _ _ _ _ _ refl (heard_end _ _ c.receive_line.new.line.items c.in-Ok-Nothing.field-0 c.in-Ok-Nothing.field-0-is c.in-Ok-Nothing.ensures.received.0)
    (sent_then true [] [] _ _ _ c.in-Ok-Nothing.ensures.received.1 c.in-Ok.ensures.sent, c.in-Ok.ensures.none)

pub returns-in-Err-flush-clause-exchanged : goal.returns-in-Err-flush-clause-exchanged
returns-in-Err-flush-clause-exchanged g c =
    exchanged_stuck g.T.Steps.leads next _ _ _ _ _ _ _ refl _ (heard_end _ _ c.receive_line.new.line.items c.in-Ok-Nothing.field-0 c.in-Ok-Nothing.field-0-is c.in-Ok-Nothing.ensures.received.0)
    (sent_then false [] [] _ _ _ c.in-Ok-Nothing.ensures.received.1 c.in-Err-flush.ensures.sent)

pub returns-in-Err-clause-exchanged : goal.returns-in-Err-clause-exchanged
returns-in-Err-clause-exchanged g c =
    exchanged_fault g.T.Steps.leads next _ _ _ _ _ _ _ refl c.in-Err.fault _ (LacksLine c.receive_line.new.input) (λ bytes w. ap (next_of c.receive_line.new.input.ended) w) c.in-Err.ensures.received

pub receive_line-requires-clause-asked : goal.receive_line-requires-clause-asked
receive_line-requires-clause-asked g c =
    let s : Stream = record { source = g.R.Asked.state c.args.reader.now; held = c.args.desk.now.input } in
    let o : Outgoing = record { sink = g.W.Sink.state c.args.writer.now; waits = c.args.desk.now.bench.output } in
    line_asked g.R.Asked.may_ask s o c.requires.asked

pub answer_line-requires-clause-asked : goal.answer_line-requires-clause-asked
answer_line-requires-clause-asked g c =
    let line = c.receive_line.new.line.items in
    let s : Stream = record { source = g.R.Asked.state c.args.reader.now; held = c.args.desk.now.input } in
    let t : Stream = record { source = g.R.Asked.state c.receive_line.new.reader; held = c.receive_line.new.input } in
    let o : Outgoing = record { sink = g.W.Sink.state c.args.writer.now; waits = c.args.desk.now.bench.output } in
    let p : Outgoing = record { sink = g.W.Sink.state c.receive_line.new.writer; waits = c.receive_line.new.output } in
    behind_asked g.R.Asked.may_ask s t o p line
    (subst (λ l. Fetched 0 s t (IsLined (Ok l) line t.held)) c.in-Ok-Whole.field-0-is c.in-Ok-Whole.ensures.received.0)
    c.in-Ok-Whole.ensures.received.1 c.requires.asked
