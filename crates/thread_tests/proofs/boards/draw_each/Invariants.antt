use Rattle.std.specs.Prelude.{All}
use Rattle.race_board.specs.Race.{IsSeatOf}
use Rattle.thread_tests.proofs.boards.draw_each.Given as goal

abbrev pub invariant-loop-seat : goal.invariant-loop-seat
invariant-loop-seat l = All (IsSeatOf l.board) l.drained.items
