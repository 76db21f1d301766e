use Rattle.std.proofs.Common.{◌≡◌, ◌-◌, [], vec_len}
use Rattle.race_board.specs.Race.{fresh_workers}
use Rattle.race_board.specs.Naming.{name_of}
use Rattle.race_board.proofs.Seats.{AreDealt}
use Rattle.race_board.proofs.board.deal.Given as goal

abbrev pub invariant-loop-worker : goal.invariant-loop-worker
invariant-loop-worker l = record {
  own : l.table_seat.table_id ≡ l.table.shared.table_id;
  view : l.table_seat.me ≡ (fresh_workers l._worker (l.workers - l._worker), []);
  len : vec_len l.seats ≡ l._worker;
  dealt : AreDealt (name_of l.table.shared.table_id) l.seats.items;
}
