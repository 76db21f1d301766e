use Rattle.std.proofs.Common.{◌≡◌}
use Rattle.listener.specs.Acceptors.{IsAccounted}
use Rattle.listener.specs.inner.Starting.{IsReady}
use Rattle.listener.proofs.accepting.start_all.Given as goal

abbrev pub invariant-loop : goal.invariant-loop
invariant-loop g l = record {
  next : (goal.iterator-loop g).can_next l.iterator';
  finite : (goal.iterator-loop g).is_finite l.iterator';
  ready : IsReady l.server.purse.now l.server.terms.workers l.ready;
  accounted : IsAccounted (g.E.Acceptor.state l.fn.acceptor) (g.E.Acceptor.state l.acceptor);
  failures : (g.E.Acceptor.state l.acceptor).failures ≡ (g.E.Acceptor.state l.fn.acceptor).failures;
}
