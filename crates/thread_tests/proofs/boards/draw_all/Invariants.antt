use Rattle.std.proofs.Common.{◌<◌, ◌-◌, length}
use Rattle.race_board.specs.Race.{MayDrawAt, times_drawn}
use Rattle.thread_tests.proofs.boards.draw_all.Given as goal

abbrev pub invariant-loop-chunk : goal.invariant-loop-chunk
invariant-loop-chunk l = record {
  ready : MayDrawAt l.board l.seat;
  next : 0 < l.next → 0 < times_drawn (l.next - 1) l.seat.worker;
}

abbrev pub decreases-loop-chunk : goal.decreases-loop-chunk
decreases-loop-chunk l = length l.prices - l.next
