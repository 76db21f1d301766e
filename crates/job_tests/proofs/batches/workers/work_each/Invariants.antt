use Rattle.std.specs.Prelude.{All}
use Rattle.race_board.specs.Race.{IsSeatOf}
use Rattle.job_tests.proofs.batches.workers.work_each.Given as goal

abbrev pub invariant-loop-seat : goal.invariant-loop-seat
invariant-loop-seat l = All (IsSeatOf l.task.board.now) l.ended.items
