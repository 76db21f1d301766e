use Rattle.std.proofs.Common.{ap, subst, sym}
use Rattle.session.specs.Sessions.{SessionState}
use Rattle.session.specs.inner.Exchange.{Conversed}
use Rattle.session.specs.inner.Standing.{scene_at}
use Rattle.session.proofs.Talking.{outcome_of}
use Rattle.session.specs.Talk.{MayAskWhenAnswered}
use Rattle.session.proofs.conversation.Session.serve_counting.Goals as goal

pub returns-clause-said : goal.returns-clause-said
returns-clause-said g c =
    let said = c.converse-outcome in
    let mid = scene_at said.new.desk (g.R.Asked.state said.new.reader) (g.W.Sink.state said.new.writer) said.new.steps in
    outcome_of g.T.Steps.leads c.args.self _ mid c.release.new.steps (ap (λ (r : SessionState). r.reads) c.self.view_is)
    (ap (λ (r : SessionState). r.workers) c.self.view_is) c.release.ensures.dealt said.result said.ensures.conversed

pub returns-clause-begun : goal.returns-clause-begun
returns-clause-begun g c = λ e. subst (Conversed g.T.Steps.leads _ _) e c.converse-outcome.ensures.conversed

pub converse-outcome-requires-clause-asked : goal.converse-outcome-requires-clause-asked
converse-outcome-requires-clause-asked g c =
    subst (λ n. MayAskWhenAnswered g.R.Asked.may_ask n (g.R.Asked.state c.args.reader.now) (g.W.Sink.state c.args.writer.now)) (ap (λ (r : SessionState). r.workers) (sym c.self.view_is)) c.requires
