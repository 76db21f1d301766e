-- Rows whose last cells wait for the values of calls that are gathered and wait. This project's own.
use Rattle.std.specs.Prelude.{◌≡◌, ◌<◌, ◌+◌, ◌^◌, ℕ, if◌then◌else◌, nat_eq, List, [], ◌∷◌, ◌++◌, Result, OnOk, OnErr}
use Rattle.std.specs.declared.alloc.AllocError.{AllocError}
use Rattle.bpf_verify.specs.Accepted.{Accepted}
use Rattle.csr_store.specs.Run.{Run}
use Rattle.bpf_run.specs.Calls.{Call, Gathered, calls_on, values_on, steps_of, Charges}
use Rattle.entry_ops.specs.inner.Standing.{Standing, Adds, CanPush, IsOpen, with_cell, with_end}
use Rattle.entry_ops.specs.declared.select_buffer.Mark.{Mark}
use Rattle.entry_ops.specs.declared.select_buffer.Mark.TheVariants.{End, Selected}

-- a run with a cell more if an answer is not 0
abbrev pub with_kept : ℕ → ℕ → ℕ → Run → Run
with_kept column word answer run = if nat_eq answer 0 then run else with_cell column word run

-- a run with all that is marked, each call with its value
abbrev pub placed : List Mark → List ℕ → Run → Run
placed [] values run = run
placed (End ∷ marks) values run = placed marks values (with_end run)
placed (Selected column word ∷ marks) [] run = run
placed (Selected column word ∷ marks) (v ∷ values) run = placed marks values (with_kept column word v run)

-- all that is marked may be added, and there are as many values as calls
abbrev pub Fits : List Mark → List ℕ → Run → Type 0
Fits [] values run = values ≡ []
Fits (End ∷ marks) values run = Fits marks values (with_end run)
Fits (Selected column word ∷ marks) [] run = ⊥
Fits (Selected column word ∷ marks) (v ∷ values) run = CanPush column run × Fits marks values (with_kept column word v run)

-- the rows so far, the marks after them, and the steps of the calls that ran
pub record SelectState : Type 0 where
  pub rows : Run
  pub marks : List Mark
  pub steps : ℕ

-- the rows as if the gathered calls had run
abbrev pub final : Accepted → SelectState → Gathered → Run
final f e g = placed e.marks (values_on f g.operands) e.rows

-- the marks and the gathered calls belong together
pub record Holds (f : Accepted) (e : SelectState) (g : Gathered) : Type 0 where
  pub kind : g.kind ≡ f.kind
  pub fits : Fits e.marks (values_on f g.operands) e.rows

abbrev pub standing : Accepted → SelectState → Gathered → Standing
standing f e g = record { rows = final f e g; waiting = calls_on f g.operands; steps = e.steps }

-- calls were added, run or not yet, and the rows will be what `change` makes of them
pub record Does (f : Accepted) (calls : List Call) (change : Run → Run) (old : SelectState) (was : Gathered) (new : SelectState)
    (is : Gathered) : Type 0 where
  pub holds : Holds f new is
  pub adds : Adds calls change (standing f old was) (standing f new is)

-- a cell may be added at a column, and the steps of the calls that wait fit in
pub record CanAdd (f : Accepted) (column : ℕ) (e : SelectState) (g : Gathered) : Type 0 where
  pub holds : Holds f e g
  pub fits : CanPush column (final f e g)
  pub capacity : e.steps + steps_of (calls_on f g.operands) < 2 ^ 64

-- a row of so many columns is begun, and the steps of these calls fit in after those of the calls that wait
pub record IsReady (f : Accepted) (columns : ℕ) (calls : List Call) (e : SelectState) (g : Gathered) : Type 0 where
  pub holds : Holds f e g
  pub open_row : IsOpen columns (final f e g)
  pub capacity : e.steps + (steps_of (calls_on f g.operands) + steps_of calls) < 2 ^ 64

-- one thing was done; or, out of memory, some of the calls that waited ran
pub record Puts (f : Accepted) (calls : List Call) (change : Run → Run) (old : SelectState) (was : Gathered) (new : SelectState)
    (is : Gathered) (put : Result (Unit {0}) AllocError) : Type 0 where
  pub does : OnOk put (Does f calls change old was new is)
  pub spent : OnErr put (Charges (calls_on f was.operands) old.steps new.steps)

-- much was done; or, out of memory, some of the calls that waited and of those that were to come ran
pub record Fills (f : Accepted) (calls : List Call) (change : Run → Run) (old : SelectState) (was : Gathered) (new : SelectState)
    (is : Gathered) (filled : Result (Unit {0}) AllocError) : Type 0 where
  pub does : OnOk filled (Does f calls change old was new is)
  pub spent : OnErr filled ((rest : List Call) → Charges (calls_on f was.operands ++ (calls ++ rest)) old.steps new.steps)

-- all calls that waited ran
pub record IsFlushed (f : Accepted) (old : SelectState) (was : Gathered) (new : SelectState) (is : Gathered) : Type 0 where
  pub state : new ≡ record { rows = final f old was; marks = []; steps = old.steps + steps_of (calls_on f was.operands) }
  pub none : is.operands ≡ []
  pub kind : is.kind ≡ f.kind
