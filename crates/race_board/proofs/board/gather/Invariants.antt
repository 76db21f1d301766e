use Rattle.std.proofs.Common.{◌≡◌, ℕ, ◌+◌, vec_len}
use Rattle.std.specs.Prelude.{All}
use Rattle.race_board.specs.Race.{Worker, total_of, workers_of}
use Rattle.race_board.specs.Naming.{name_of}
use Rattle.race_board.proofs.board.gather.Given as goal

abbrev pub invariant-loop-next : goal.invariant-loop-next
invariant-loop-next l = record {
  seats : All (λ s. s.board ≡ name_of l.table.shared.table_id) l.seats.items;
  own : l.all.table_seat.table_id ≡ l.table.shared.table_id;
  sums : (f : Worker → ℕ) → total_of f l.all.table_seat.me.0 + total_of f (workers_of l.seats.items) ≡ total_of f (workers_of l.fn.seats.items) + f l.fn.first.worker;
}

abbrev pub decreases-loop-next : goal.decreases-loop-next
decreases-loop-next l = vec_len l.seats
