use Rattle.std.proofs.Common.{[], List, ℕ, true, false, is_ok, sym, subst, arith}
use Rattle.wire.specs.Sending.{Outgoing, Sent}
use Rattle.wire.proofs.Sending.{sent_then, sent_whole, sent_front, sent_cut}
use Rattle.wire.proofs.output.Output.say.Goals as goal
use Rattle.wire.proofs.output.Output.say.Goals.{in-Ok, in-Err-put}

pub returns-after-put : goal.returns-after-put
returns-after-put g c =
    let text = c.args.text.now in
    let waits = c.make_room.new.buffer.items in
    let o : Outgoing = record { sink = g.W.Sink.state c.args.writer.now; waits = c.args.self.now } in
    let p : Outgoing = record { sink = g.W.Sink.state c.make_room.new.writer; waits = waits } in
    let q : Outgoing = record { sink = g.W.Sink.state c.put.new.writer; waits = waits } in
    let none = c.in-Ok-false.ensures.none c.in-Ok-false.field-0-test in
    let first : Sent true [] o p =
    subst (λ (ws : List ℕ). Sent true [] (record { sink = g.W.Sink.state c.args.writer.now; waits = ws }) p) c.self.view_is c.in-Ok-false.ensures.sent in
    elim c.match-put.branch [
      | in-Ok w ↦ record {
        sent = subst (λ r. Sent (is_ok r) text o q) (sym w.result-is)
            (sent_then true [] text o p q first
            (sent_whole text waits p.sink q.sink none w.in-Ok.ensures.written (let f = w.in-Ok.ensures.failures in omega arith)));
      }
      | in-Err-put w ↦ record {
        sent = subst (λ r. Sent (is_ok r) text o q) (sym w.result-is)
            (sent_then false [] text o p q first
            (sent_front text waits p.sink q.sink none w.in-Err-put.ensures.cut w.in-Err-put.ensures.failures));
      }
    ]

pub returns-in-Err : goal.returns-in-Err
returns-in-Err g c =
    let p : Outgoing = record { sink = g.W.Sink.state c.make_room.new.writer; waits = c.make_room.new.buffer.items } in
    record {
      sent = subst (λ (ws : List ℕ). Sent false c.args.text.now (record { sink = g.W.Sink.state c.args.writer.now; waits = ws }) p) c.self.view_is
          (sent_cut c.args.text.now _ _ c.in-Err.ensures.sent);
    }
