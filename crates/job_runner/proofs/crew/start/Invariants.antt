use Rattle.std.proofs.Common.{◌≡◌, ◌<◌, ◌≤◌, ◌+◌, [], true, false, vec_len, vec_capacity}
use Rattle.std.specs.Prelude.{All}
use Rattle.std.specs.List.{AllByRecursion}
use Rattle.race_board.specs.Race.{MayDrawAt, SeatState}
use Rattle.job_runner.proofs.crew.start.Given as goal

abbrev pub invariant-loop-seat : goal.invariant-loop-seat
invariant-loop-seat g l = record {
  ready : All (MayDrawAt l.task.board.now) l.seats.items;
  fresh : All (λ (s : SeatState). s.worker.done ≡ []) l.seats.items;
  promised : AllByRecursion (λ h. h.promise ≡ l.task) l.handles.items;
  some : vec_len l.handles + vec_len l.seats ≤ vec_len l.fn.seats;
  capacity : vec_len l.handles + vec_len l.seats ≤ vec_capacity l.handles;
  all : l.refused ≡ false → vec_len l.handles + vec_len l.seats ≡ vec_len l.fn.seats;
  refused : l.refused ≡ true → 0 < vec_len l.fn.seats;
}

abbrev pub decreases-loop-seat : goal.decreases-loop-seat
decreases-loop-seat g l = vec_len l.seats
