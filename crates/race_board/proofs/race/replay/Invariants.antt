use Rattle.std.proofs.Common.{◌≡◌, take}
use Rattle.race_board.specs.Race.{replayed}
use Rattle.race_board.proofs.race.replay.Given as goal

abbrev pub invariant-loop-event : goal.invariant-loop-event
invariant-loop-event l = l.race ≡ replayed l.fn.prices.items l.fn.workers (take l.event-index l.events)
