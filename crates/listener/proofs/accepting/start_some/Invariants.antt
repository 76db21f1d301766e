use Rattle.std.proofs.Common.{◌≡◌, ◌+◌}
use Rattle.listener.specs.Acceptors.{IsAccounted}
use Rattle.listener.specs.inner.Starting.{IsReady}
use Rattle.listener.proofs.accepting.start_some.Given as goal

abbrev pub invariant-loop : goal.invariant-loop
invariant-loop g l = record {
  ready : IsReady l.server.purse.now l.server.terms.workers l.ready;
  started : (g.E.Acceptor.state l.acceptor).started ≡ (g.E.Acceptor.state l.fn.acceptor).started + l.counter;
  accounted : IsAccounted (g.E.Acceptor.state l.fn.acceptor) (g.E.Acceptor.state l.acceptor);
  failures : (g.E.Acceptor.state l.acceptor).failures ≡ (g.E.Acceptor.state l.fn.acceptor).failures;
}
