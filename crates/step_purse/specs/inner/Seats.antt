-- Which calls a seat makes at an account's cell. This project's own.
use Rattle.std.specs.Prelude.{ℕ, List}
use Rattle.atomic_table.specs.declared.shared.Seat.{Seat}
use Rattle.crossbeam_utils.specs.declared.atomic.seq_cell.Doing.{Doing}
use Rattle.crossbeam_utils.specs.Seq.{cell_view}
use Rattle.step_purse.specs.declared.account.Account.{Account}
use Rattle.step_purse.specs.declared.dealings.Dealing.{Dealing}
use Rattle.step_purse.specs.declared.views.View.{View}
use Rattle.step_purse.specs.Histories.{Makes}
use Rattle.step_purse.specs.Seats.{IsSeatOf}

-- a seat at this cell called, and is one at it still
abbrev pub CallsAt : Account → Seat (List ℕ) (Doing (List ℕ) View) → Dealing → Seat (List ℕ) (Doing (List ℕ) View)
    → Type 0
CallsAt account old call new =
    IsSeatOf account new × Makes account.allowance (cell_view old).known call (cell_view new).known
