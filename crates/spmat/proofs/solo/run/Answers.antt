use Rattle.std.proofs.Common.{◌∙◌, subst, sym}
use Rattle.session.specs.Sessions.{SessionState}
use Rattle.session.specs.Talk.{MayAskWhenAnswered}
use Rattle.spmat.proofs.Running.{ran_from}
use Rattle.spmat.proofs.solo.run.Goals as goal

pub returns : goal.returns
returns g c =
    let made = c.in-Ok.ensures in
    let s = c.serve_unlimited-served in
    ran_from c.args.steps c.args.workers c.in-Ok.prepared.session c.in-Ok.prepared.pass s.result.pass _ _ _ _ s.result.spent made.session
    (made.own.0.1 ∙ made.own.1) made.unused s.ensures.spent s.result.outcome s.ensures.begun s.ensures.said

pub serve_unlimited-served-requires-clause-asked : goal.serve_unlimited-served-requires-clause-asked
serve_unlimited-served-requires-clause-asked g c =
    subst (λ (r : SessionState). MayAskWhenAnswered g.I.Asked.may_ask r.workers (g.I.Asked.state c.args.source.now) (g.O.Sink.state c.args.sink.now))
    (sym c.in-Ok.ensures.session) c.requires.asked
