use Rattle.std.proofs.Common.{◌∙◌, ap}
use Rattle.race_board.specs.Race.{SeatState}
use Rattle.race_board.proofs.Seats.{alone_holds}
use Rattle.race_board.proofs.board.Board.complete.Goals as goal

pub complete-requires-clause-holds : goal.complete-requires-clause-holds
complete-requires-clause-holds c = alone_holds c.args.chunk c.seat.inside.crew.table_seat.me.0 c.seat.invariant (ap (λ (s : SeatState). s.worker.state) c.seat.view_is ∙ c.requires.holds)
