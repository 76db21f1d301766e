use Rattle.std.proofs.Common.{subst, sym}
use Rattle.session.specs.Sessions.{SessionState}
use Rattle.session.specs.Talk.{MayAskWhenAnswered}
use Rattle.listener.proofs.sides.serve_sides.Goals as goal

pub serve_within-requires-clause-asked : goal.serve_within-requires-clause-asked
serve_within-requires-clause-asked g c =
    subst (λ (r : SessionState). MayAskWhenAnswered g.I.Asked.may_ask r.workers (g.I.Asked.state c.args.source.now) (g.O.Sink.state c.args.sink.now))
    (sym c.requires.given.2) c.requires.asked
