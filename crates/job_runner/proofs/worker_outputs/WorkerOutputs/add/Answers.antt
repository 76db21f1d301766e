use Rattle.std.proofs.Common.{◌<◌, inl, inr, List, sym, subst}
use Rattle.std.specs.Prelude.{All}
use Rattle.std.specs.List.{AllByRecursion}
use Rattle.race_board.specs.Race.{SeatState, IsSeatOf, IsDrained, workers_of}
use Rattle.race_board.specs.Chunks.{CostJust, completed_by, recorded_by, times_in}
use Rattle.race_board.proofs.Elements.{all_snoc}
use Rattle.job_runner.specs.Chunk.{chunk_steps}
use Rattle.job_runner.specs.inner.Charged.{IsCharged}
use Rattle.job_runner.proofs.Gathering.{gathered_cost, gathered_just, gathered_told, completed_or, neither}
use Rattle.job_runner.proofs.worker_outputs.WorkerOutputs.add.Goals as goal

pub returns-clause-outputs : goal.returns-clause-outputs
returns-clause-outputs c =
    let board = c.args.task.board.now in
    let jobs = c.args.task.plan.now in
    let old = c.args.self.now.seats.items in
    let ended = c.args.ended in
    let is = c.requires.ended in
    let was = c.requires.outputs.0 in
    let items = rw c.unwrap.ensures at c.push.ensures.items in
    record {
      own = subst (All (IsSeatOf board)) (sym items) (all_snoc (IsSeatOf board) old ended.seat was.own is.own);
      just = subst (λ (ss : List SeatState). CostJust (chunk_steps jobs) (completed_by (workers_of ss))) (sym items)
          (gathered_just board jobs old ended is was.just);
      cost = subst (λ (ss : List SeatState). AllByRecursion (IsCharged jobs) (recorded_by (workers_of ss))) (sym items)
          (gathered_cost board jobs old ended is was.cost);
      completed_pieces = c.put.ensures.completed_pieces;
      there = λ k l. elim (completed_or board jobs old ended k is
          (subst (λ (ss : List SeatState). 0 < times_in k (completed_by (workers_of ss))) items l)) [
            | inl a ↦ c.put.ensures.full k (inl (was.there k a))
            | inr b ↦ c.put.ensures.full k (inr b)
          ];
      drained = λ f. let both = neither c.args.self.now.failed ended.worked.failed f in
          subst (All (λ (s : SeatState). IsDrained s.worker)) (sym items)
          (gathered_told board jobs old ended is both.1 (was.drained both.0));
    }
