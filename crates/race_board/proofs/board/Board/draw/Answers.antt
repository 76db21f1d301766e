use Rattle.std.proofs.Common.{◌∙◌, ap}
use Rattle.race_board.specs.Race.{SeatState}
use Rattle.race_board.proofs.Seats.{alone_draws, alone_above}
use Rattle.race_board.proofs.board.Board.draw.Goals as goal

pub draw-requires-clause-free : goal.draw-requires-clause-free
draw-requires-clause-free c = alone_draws c.seat.inside.crew.table_seat.me.0 c.seat.invariant (ap (λ (s : SeatState). s.worker.state) c.seat.view_is ∙ c.requires.free)

pub returns-clause-above : goal.returns-clause-above
returns-clause-above c = alone_above _ c.seat.inside.crew.table_seat.me.0 c.draw.result _ c.args.seat.now.worker c.seat.invariant (ap (λ (s : SeatState). s.worker) c.seat.view_is) c.draw.ensures.drew
