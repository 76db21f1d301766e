use Rattle.std.proofs.Common.{◌≡◌, Bool, true, false, is_ok, List, ℕ, [], ◌++◌, sym, ap, ◌∙◌, subst, append_assoc}
use Rattle.wire.specs.Sending.{Outgoing, Sent}
use Rattle.wire.proofs.Known.{append_nil}
use Rattle.wire.proofs.Sending.{sent_then}
use Rattle.session.proofs.answering.say.Goals as goal

-- a text was not written whole, and so one behind it was not
cut_behind : (a b : List ℕ) (o p : Outgoing) → Sent false a o p → Sent false (a ++ b) o p
cut_behind a b o p s = record {
  written = s.written;
  appended = s.appended;
  is_written = (s.is_written.0 ++ b, sym (append_assoc o.waits a b) ∙ ap (λ xs. xs ++ b) s.is_written.1 ∙ append_assoc s.written s.is_written.0 b);
  failures = s.failures;
}

-- what is sent is the line and the text of the reply
as_said : (well : Bool) (x y : List ℕ) (o p : Outgoing) → x ≡ y → Sent well x o p → Sent well y o p
as_said well x y o p e s = subst (λ xs. Sent well xs o p) e s

pub returns-in_default-clause-sent : goal.returns-in_default-clause-sent
returns-in_default-clause-sent g c =
    cut_behind c.args.reply.now.line c.args.reply.now.text _ _ (as_said false _ _ _ _ c.line.ensures c.in_default.ensures.sent)

pub returns-in_default-say-clause-sent : goal.returns-in_default-say-clause-sent
returns-in_default-say-clause-sent g c =
    sent_then false c.args.reply.now.line c.args.reply.now.text _ _ _ (as_said true _ _ _ _ c.line.ensures c.in-Ok.ensures.sent)
    (as_said false _ _ _ _ c.attached.ensures c.in_default-say.ensures.sent)

pub returns-then-last-clause-sent : goal.returns-then-last-clause-sent
returns-then-last-clause-sent g c =
    let line = c.args.reply.now.line in
    let text = c.args.reply.now.text in
    as_said (is_ok c.flush.result) ((line ++ text) ++ []) (line ++ text) _ _ (append_nil (line ++ text))
    (sent_then (is_ok c.flush.result) (line ++ text) [] _ _ _
    (sent_then true line text _ _ _ (as_said true _ _ _ _ c.line.ensures c.in-Ok.ensures.sent) (as_said true _ _ _ _ c.attached.ensures c.in-Ok-say.ensures.sent))
    c.flush.ensures.sent)

pub returns-else-last-clause-sent : goal.returns-else-last-clause-sent
returns-else-last-clause-sent g c =
    sent_then true c.args.reply.now.line c.args.reply.now.text _ _ _ (as_said true _ _ _ _ c.line.ensures c.in-Ok.ensures.sent)
    (as_said true _ _ _ _ c.attached.ensures c.in-Ok-say.ensures.sent)
