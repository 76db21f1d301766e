-- Below the public contract: which seats step at an account's cell. This project's own.
use Rattle.std.specs.Prelude.{◌≡◌, ℕ, List}
use Rattle.atomic_table.specs.declared.shared.Seat.{Seat}
use Rattle.crossbeam_utils.specs.declared.atomic.seq_cell.Doing.{Doing}
use Rattle.crossbeam_utils.specs.Seq.{cell_view}
use Rattle.step_purse.specs.declared.account.Account.{Account}
use Rattle.step_purse.specs.declared.views.View.{View}
use Rattle.step_purse.specs.Rule.{MayCall}

-- the seat is one at this cell, knows its allowance, and may call
pub record IsSeatOf (account : Account) (seat : Seat (List ℕ) (Doing (List ℕ) View)) : Type 0 where
  pub cell : seat.table_id ≡ account.cell.table.shared.table_id
  pub allowance : (cell_view seat).allowance ≡ account.allowance
  pub may : MayCall (cell_view seat)
