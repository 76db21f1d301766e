use Rattle.std.proofs.Common.{◌∙◌, ap}
use Rattle.race_board.specs.Race.{SeatState}
use Rattle.race_board.proofs.Seats.{alone_holds}
use Rattle.race_board.proofs.board.Board.fail.Goals as goal

pub fail-requires-clause-holds : goal.fail-requires-clause-holds
fail-requires-clause-holds c = alone_holds c.args.chunk c.seat.inside.crew.table_seat.me.0 c.seat.invariant (ap (λ (s : SeatState). s.worker.state) c.seat.view_is ∙ c.requires.holds)
