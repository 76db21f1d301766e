use Rattle.std.proofs.Common.{◌≤◌, sym, subst, arith, ℕ, length}
use Rattle.std.specs.Prelude.{slice_index}
use Rattle.race_board.specs.Race.{workers_of, steps_of}
use Rattle.race_board.specs.Chunks.{recorded_by, sum_below}
use Rattle.race_board.proofs.Sums.{sum_append}
use Rattle.race_board.proofs.Chunks.{recorded_at_most, closed_recorded, recorded_within, recorded_steps}
use Rattle.thread_tests.proofs.boards.joined.close_early.Goals as goal

pub returns-clause-priced : goal.returns-clause-priced
returns-clause-priced c =
    let board = c.args.board in
    let workers = workers_of c.args.seats.items in
    let closing = c.close.ensures in
    let most = recorded_at_most (slice_index board.prices) (length board.prices) (recorded_by workers) (closed_recorded (length board.prices) workers closing.once) (recorded_within board.prices workers closing.within) in
    let all = recorded_steps workers in
    let spent = closing.spent in
    omega arith

pub returns-clause-shared : goal.returns-clause-shared
returns-clause-shared c =
    let closing = c.close.ensures in
    let both = sum_append steps_of (workers_of c.args.seats.items) closing.race.lost in
    let all = closing.race.steps in
    let spent = closing.spent in
    omega arith
