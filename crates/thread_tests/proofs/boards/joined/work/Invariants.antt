use Rattle.std.proofs.Common.{◌≡◌, ◌<◌, ◌-◌, ◌%◌, length}
use Rattle.race_board.specs.Race.{MayDrawAt, times_drawn}
use Rattle.race_board.specs.Chunks.{CostJust}
use Rattle.thread_tests.proofs.boards.joined.work.Given as goal

abbrev pub invariant-loop-chunk : goal.invariant-loop-chunk
invariant-loop-chunk l = record {
  ready : MayDrawAt l.board l.seat;
  next : 0 < l.next → 0 < times_drawn (l.next - 1) l.seat.worker;
  same : l.seat.worker.done ≡ l.list.items;
  cost : CostJust (λ c. c % 7) l.list.items;
}

abbrev pub decreases-loop-chunk : goal.decreases-loop-chunk
decreases-loop-chunk l = length l.board.prices - l.next
