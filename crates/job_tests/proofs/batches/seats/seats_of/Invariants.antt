use Rattle.std.specs.Prelude.{All}
use Rattle.race_board.specs.Race.{IsSeatOf}
use Rattle.job_tests.proofs.batches.seats.seats_of.Given as goal

abbrev pub invariant-loop-ended : goal.invariant-loop-ended
invariant-loop-ended g l = All (IsSeatOf l.board) l.seats.items
