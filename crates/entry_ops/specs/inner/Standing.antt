-- Rows as if the calls that wait had run, and what is added to them. This project's own.
use Rattle.std.specs.Prelude.{◌≡◌, ◌<◌, ℕ, List, [], ◌∷◌, ◌++◌}
use Rattle.std.specs.List.{AllByRecursion}
use Rattle.csr_store.specs.Grid.{Cell}
use Rattle.csr_store.specs.Run.{Row, Run}
use Rattle.csr_store.specs.Ascending.{Ascends}
use Rattle.bpf_run.specs.Calls.{Call}
use Rattle.bpf_run.proofs.Charging.{Spends}

-- a run with a cell more in its open row
abbrev pub with_cell : ℕ → ℕ → Run → Run
with_cell column value run = record run { opened = run.opened ++ (column, value) ∷ [] }

-- with these cells more
abbrev pub with_cells : Row → Run → Run
with_cells cells run = record run { opened = run.opened ++ cells }

-- with its open row ended
abbrev pub with_end : Run → Run
with_end run = record run { ended = run.ended ++ run.opened ∷ []; opened = [] }

-- a run of so many columns whose open row has no cell
pub record IsOpen (columns : ℕ) (run : Run) : Type 0 where
  pub columns_are : run.columns ≡ columns
  pub none : run.opened ≡ []

-- a cell may be added at a column
abbrev pub CanPush : ℕ → Run → Type 0
CanPush column run = (column < run.columns) × AllByRecursion (λ (c : Cell). c.0 < column) run.opened

-- cells may be added: by ascending column, after those of the open row
pub record FollowIn (cells : Row) (run : Run) : Type 0 where
  pub low : ℕ
  pub above : AllByRecursion (λ (c : Cell). c.0 < low) run.opened
  pub ascend : Ascends low run.columns cells

-- the rows as if the calls that wait had run, those calls, and the steps of the calls that ran
pub record Standing : Type 0 where
  pub rows : Run
  pub waiting : List Call
  pub steps : ℕ

-- calls were added, run or not yet, and the rows are what `change` makes of them
pub record Adds (calls : List Call) (change : Run → Run) (old new : Standing) : Type 0 where
  pub rows : new.rows ≡ change old.rows
  pub spends : (rest : List Call) → Spends (old.waiting ++ (calls ++ rest)) old.steps (new.waiting ++ rest) new.steps
