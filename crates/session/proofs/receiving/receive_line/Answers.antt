use Rattle.std.proofs.Common.{◌≡◌, false, sym, subst}
use Rattle.wire.specs.Fetching.{MayAsk}
use Rattle.wire.specs.InputState.{InputState}
use Rattle.wire.specs.Lines as lines
use Rattle.wire.proofs.Sending.{sent_nothing}
use Rattle.session.proofs.receiving.receive_line.Goals as goal

pub returns-in-Some-clause-received : goal.returns-in-Some-clause-received
returns-in-Some-clause-received g c = (c.in-Some.ensures.fetched (g.R.Asked.state c.args.reader.now), sent_nothing _)

pub next_line-requires-clause-asked : goal.next_line-requires-clause-asked
next_line-requires-clause-asked g c =
    let sink = g.W.Sink.state c.flush.new.writer in
    subst (λ (h : InputState). MayAsk g.R.Asked.may_ask (record { source = g.R.Asked.state c.args.reader.now; held = h }) sink (λ bytes. lines.first false bytes ≡ lines.Partial))
    (sym c.in_default.ensures.none)
    (c.requires.asked (record { sink = sink; waits = c.flush.new.self }) (c.in-Ok.ensures.sent, c.in-Ok.ensures.none))
