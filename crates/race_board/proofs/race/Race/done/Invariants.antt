use Rattle.std.proofs.Common.{◌≡◌, take}
use Rattle.race_board.specs.Race.{total_of, times_completed}
use Rattle.race_board.proofs.race.Race.done.Given as goal

abbrev pub invariant-loop-record : goal.invariant-loop-record
invariant-loop-record l = total_of (times_completed l.chunk) (take l.record-index l.record-items) ≡ 0
