-- What contracts see of a purse and its passes. This project's own.
use Rattle.std.specs.Prelude.{◌≡◌, ℕ}
use Rattle.atomic_table.specs.Seated.{TableId}
use Rattle.step_purse.specs.declared.dealings.Dealing.{Dealing}
use Rattle.step_purse.specs.declared.views.Books.{Books}
use Rattle.step_purse.specs.Histories.{Makes}

-- A purse: its name, which no other purse has, and what it was opened with
pub record PurseState : Type 0 where
  pub name : TableId
  pub allowance : ℕ

-- A pass: the name and the allowance of its purse, and what it knows of the one history
pub record PassState : Type 0 where
  pub purse : TableId
  pub allowance : ℕ
  pub known : Books

-- the pass is one of this purse
abbrev pub IsPassOf : PurseState → PassState → Type 0
IsPassOf purse pass = (pass.purse ≡ purse.name) × (pass.allowance ≡ purse.allowance)

-- a pass of this purse called, and is one of it still
abbrev pub Calls : PurseState → PassState → Dealing → PassState → Type 0
Calls purse old call new = IsPassOf purse new × Makes purse.allowance old.known call new.known
