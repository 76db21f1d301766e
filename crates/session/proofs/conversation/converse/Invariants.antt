use Rattle.std.proofs.Common.{◌≡◌, ◌+◌}
use Rattle.wire.specs.Fetching.{reach}
use Rattle.job_plan.specs.Price.{total_price}
use Rattle.workspace.specs.Workspace.{state_of}
use Rattle.session.specs.inner.Standing.{scene_at}
use Rattle.session.proofs.Talking.{SoFar}
use Rattle.session.proofs.conversation.converse.Given as goal

abbrev pub invariant-exchanges : goal.invariant-exchanges
invariant-exchanges g l = record {
  said : SoFar g.T.Steps.leads
      (scene_at l.fn.desk (g.R.Asked.state l.fn.reader) (g.W.Sink.state l.fn.writer) l.fn.steps)
      (scene_at l.desk (g.R.Asked.state l.reader) (g.W.Sink.state l.writer) l.steps);
  owed : total_price (state_of l.desk.bench.workspace).queue + g.T.Steps.owes l.fn.steps ≡ g.T.Steps.owes l.steps;
}

abbrev pub decreases-exchanges : goal.decreases-exchanges
decreases-exchanges g l = reach l.desk.input
