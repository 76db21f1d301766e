use Rattle.std.specs.Prelude.{nat_lt}
use Rattle.std.proofs.Common.{◌≡◌, length, Ok, refl, sym, ap, subst}
use Rattle.wire.specs.Fetching.{IsBody}
use Rattle.wire.proofs.Fetching.{fetched_here, fetched_map}
use Rattle.wire.proofs.Sending.{sent_nothing}
use Rattle.command_text.specs.Requests.{with_body}
use Rattle.command_text.specs.Readings.{request_of, header_of}
use Rattle.session.specs.NextCommand.{next_request, Goes}
use Rattle.session.specs.inner.Exchange.{IsReceivedOf}
use Rattle.session.specs.declared.receiving.Received.TheVariants as h
use Rattle.session.proofs.Bodies.{body_there}
use Rattle.wire.specs.InputState.{Stream}
use Rattle.wire.specs.Sending.{Outgoing}
use Rattle.session.proofs.Asking.{body_asked}
use Rattle.session.proofs.receiving.receive.Goals as goal

pub returns-in_default-clause-received : goal.returns-in_default-clause-received
returns-in_default-clause-received g c = (fetched_here _ c.args.input.now c.args.input.now (λ bytes. Unit {0}) refl refl tt, c.in_default.ensures.sent)

pub returns-in-Fatal-clause-received : goal.returns-in-Fatal-clause-received
returns-in-Fatal-clause-received g c =
    let now = c.args.input.now in (
      fetched_here _ now now (IsReceivedOf (request_of c.args.request) now (h.Stopped c.in-Fatal.rule)) refl refl
          (ap (λ r. next_request now.ended (request_of r) now.bytes) c.in-Fatal.is),
      sent_nothing _,
    )

pub returns-in-Ok-clause-received : goal.returns-in-Ok-clause-received
returns-in-Ok-clause-received g c =
    let now = c.args.input.now in (
      fetched_here _ now now (IsReceivedOf (request_of c.args.request) now (h.Plain c.in-Plain.command)) refl refl
          (ap (λ r. next_request now.ended (request_of r) now.bytes) c.in-Plain.is),
      c.in-Ok.ensures.sent,
    )

pub returns-in-Err-clause-received : goal.returns-in-Err-clause-received
returns-in-Err-clause-received g c = (fetched_here _ c.args.input.now c.args.input.now (λ bytes. Unit {0}) refl refl tt, c.in-Err.ensures.sent)

pub returns-in-Ok-Dropped-clause-received : goal.returns-in-Ok-Dropped-clause-received
returns-in-Ok-Dropped-clause-received g c =
    let new = c.read_body.new.input in
    let header = c.in-Body.header in
    let len = c.in-Body.length in
    let found = c.in-Ok-Dropped.field-0 in (
      fetched_map 0 _ _ (IsBody len (Ok found) new) (IsReceivedOf (request_of c.args.request) new (h.Dropped header)) c.in-Ok-Dropped.ensures.fetched
          (λ bytes q.
          let p = subst (λ b. IsBody len (Ok b) new bytes) c.in-Ok-Dropped.field-0-is q in
          (p.0, subst (λ a. next_request new.ended (request_of a) bytes ≡ Goes (with_body (header_of header) p.0) new.bytes) (sym c.in-Body.is) (body_there new.ended (header_of header) len bytes p.0 new.bytes p.1 p.2))),
      c.in-Ok-flush_where.ensures.sent,
    )

pub read_body-requires : goal.read_body-requires
read_body-requires g c =
    let s : Stream = record { source = g.R.Asked.state c.args.reader.now; held = c.args.input.now } in
    let o : Outgoing = record { sink = g.W.Sink.state c.args.writer.now; waits = c.args.bench.now.output } in
    let p : Outgoing = record { sink = g.W.Sink.state c.flush_where-in-Body.new.writer; waits = c.flush_where-in-Body.new.output } in
    let len = c.in-Body.length in
    body_asked g.R.Asked.may_ask s o p (request_of c.args.request) (header_of c.in-Body.header) len (nat_lt (length c.bytes.result.now) len) (ap request_of c.in-Body.is) c.requires
    c.in-Ok-flush_where.ensures.sent c.in-Ok-flush_where.ensures.none (ap (λ bs. nat_lt (length bs) len) c.bytes.ensures)
