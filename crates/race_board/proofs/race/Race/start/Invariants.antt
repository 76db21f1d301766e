use Rattle.std.proofs.Common.{◌≡◌}
use Rattle.race_board.specs.Race.{fresh_workers}
use Rattle.race_board.proofs.race.Race.start.Given as goal

abbrev pub invariant-loop-number : goal.invariant-loop-number
invariant-loop-number l = l.records.items ≡ fresh_workers 0 l.number
