use Rattle.std.proofs.Common.{◌≡◌, IfSome}
use Rattle.step_purse.specs.Passes.{IsPassOf}
use Rattle.session.specs.Sessions.{full_session}
use Rattle.listener.specs.Acceptors.{IsAccounted}
use Rattle.listener.proofs.accepting.start_next.Given as goal

abbrev pub invariant-loop : goal.invariant-loop
invariant-loop g l = record {
  next : (goal.iterator-loop g).can_next l.iterator';
  finite : (goal.iterator-loop g).is_finite l.iterator';
  own : IsPassOf l.server.purse.now l.pass;
  started : (g.E.Acceptor.state l.acceptor).started ≡ (g.E.Acceptor.state l.fn.acceptor).started;
  accounted : IsAccounted (g.E.Acceptor.state l.fn.acceptor) (g.E.Acceptor.state l.acceptor);
  full : IfSome l.session (λ r. r ≡ full_session l.server.terms.workers);
  failures : (g.E.Acceptor.state l.acceptor).failures ≡ (g.E.Acceptor.state l.fn.acceptor).failures;
}
