use Rattle.std.proofs.Common.{◌≡◌, Ok, Option, ap, subst, arith}
use Rattle.job_plan.specs.Price.{total_price}
use Rattle.workspace.specs.State.{State}
use Rattle.workspace.specs.Workspace.{state_of}
use Rattle.session.specs.NextCommand.{next}
use Rattle.session.specs.Exchange.{Exchanged}
use Rattle.session.specs.declared.end.End.{End}
use Rattle.session.specs.inner.Standing.{scene_at}
use Rattle.session.proofs.Talking.{so_far_asked, so_far_nothing, so_far_went, conversed_end, conversed_fault}
use Rattle.session.proofs.conversation.converse.Goals as goal

pub exchanges-init : goal.exchanges-init
exchanges-init g c = record {
  said = so_far_nothing g.T.Steps.leads _ c.requires.input.0 c.requires.input.1 c.requires.state;
  owed = let e : total_price (state_of c.args.desk.now.bench.workspace).queue ≡ 0 = ap (λ (s : State). total_price s.queue) c.requires.state in omega arith;
}

pub exchanges-preserved : goal.exchanges-preserved
exchanges-preserved g c =
    let old = scene_at c.exchanges.desk (g.R.Asked.state c.exchanges.reader) (g.W.Sink.state c.exchanges.writer) c.exchanges.steps in
    let new = scene_at c.exchange.new.desk (g.R.Asked.state c.exchange.new.reader) (g.W.Sink.state c.exchange.new.writer) c.exchange.new.steps in
    record {
      said = so_far_went g.T.Steps.leads _ old new c.exchanges.invariant.said (subst (λ (r : Option End). Exchanged next g.T.Steps.leads old new (Ok r)) c.in-Ok-None.field-0-is c.in-Ok-None.ensures.exchanged);
      owed = let a = c.exchange.ensures.owed in let b = c.exchanges.invariant.owed in omega arith;
    }

pub returns-in-Ok-Some-clause-conversed : goal.returns-in-Ok-Some-clause-conversed
returns-in-Ok-Some-clause-conversed g c =
    let old = scene_at c.exchanges.desk (g.R.Asked.state c.exchanges.reader) (g.W.Sink.state c.exchanges.writer) c.exchanges.steps in
    let new = scene_at c.exchange.new.desk (g.R.Asked.state c.exchange.new.reader) (g.W.Sink.state c.exchange.new.writer) c.exchange.new.steps in
    conversed_end g.T.Steps.leads _ old new c.exchanges.invariant.said c.requires.output c.in-Ok-Some.end
    (subst (λ (r : Option End). Exchanged next g.T.Steps.leads old new (Ok r)) c.in-Ok-Some.field-0-is c.in-Ok-Some.ensures.exchanged)

pub returns-in-Err-clause-conversed : goal.returns-in-Err-clause-conversed
returns-in-Err-clause-conversed g c = conversed_fault g.T.Steps.leads _ _ _ c.exchanges.invariant.said c.requires.output c.in-Err.fault c.in-Err.ensures.exchanged

pub exchange-requires-clause-asked : goal.exchange-requires-clause-asked
exchange-requires-clause-asked g c =
    so_far_asked g.T.Steps.leads _ _ (scene_at c.exchanges.desk (g.R.Asked.state c.exchanges.reader) (g.W.Sink.state c.exchanges.writer) c.exchanges.steps) c.exchanges.invariant.said
    g.R.Asked.may_ask c.requires.output c.requires.asked
