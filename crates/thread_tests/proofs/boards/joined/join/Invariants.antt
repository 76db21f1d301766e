use Rattle.std.proofs.Common.{◌≡◌, ◌+◌, ◌%◌, vec_len}
use Rattle.std.specs.Prelude.{All, IfOk}
use Rattle.race_board.specs.Race.{IsSeatOf, IsDrained, workers_of}
use Rattle.race_board.specs.Chunks.{CostJust, completed_by}
use Rattle.thread_tests.proofs.boards.joined.join.Given as goal

abbrev pub invariant-loop-result : goal.invariant-loop-result
invariant-loop-result l = record {
  rest_own : All (λ r. IfOk r (λ w. IsSeatOf l.board w.0)) l.results.items;
  rest_told : All (λ r. IfOk r (λ w. IsDrained w.0.worker)) l.results.items;
  rest_same : All (λ r. IfOk r (λ w. w.0.worker.done ≡ w.1.items)) l.results.items;
  rest_cost : All (λ r. IfOk r (λ w. CostJust (λ c. c % 7) w.1.items)) l.results.items;
  many : vec_len l.results + vec_len l.seats ≡ vec_len l.fn.results;
  own : All (IsSeatOf l.board) l.seats.items;
  drained : All (λ s. IsDrained s.worker) l.seats.items;
  joined : completed_by (workers_of l.seats.items) ≡ l.joined.items;
  cost : CostJust (λ c. c % 7) l.joined.items;
}

abbrev pub decreases-loop-result : goal.decreases-loop-result
decreases-loop-result l = vec_len l.results
