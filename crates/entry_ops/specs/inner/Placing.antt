-- Rows whose cells are added at once, each called one with a word for the time being, and whose values are written when the
-- gathered calls run. This project's own.
use Rattle.std.specs.Prelude.{◌≡◌, ◌<◌, ◌+◌, ◌^◌, ℕ, List, [], ◌∷◌, ◌++◌, Result, OnOk, OnErr}
use Rattle.std.specs.declared.alloc.AllocError.{AllocError}
use Rattle.bpf_verify.specs.Accepted.{Accepted}
use Rattle.csr_store.specs.Run.{Run}
use Rattle.csr_store.specs.Valued.{entries_of, with_value}
use Rattle.bpf_run.specs.Calls.{Call, Gathered, calls_on, values_on, steps_of, Charges}
use Rattle.entry_ops.specs.inner.Standing.{Standing, Adds, CanPush, IsOpen}

-- the rows so far, the entry of each call that waits, by its number, and the steps of the calls that ran
pub record Emission : Type 0 where
  pub rows : Run
  pub indices : List ℕ
  pub steps : ℕ

-- a run with each of some values at its index
abbrev pub placed : List ℕ → List ℕ → Run → Run
placed indices [] run = run
placed [] (v ∷ values) run = run
placed (p ∷ indices) (v ∷ values) run = placed indices values (with_value p v run)

-- there is an index for each value, and it is one of so many entries
abbrev pub HavePlaces : List ℕ → List ℕ → ℕ → Type 0
HavePlaces indices [] entries = Unit {0}
HavePlaces [] (v ∷ values) entries = ⊥
HavePlaces (p ∷ indices) (v ∷ values) entries = (p < entries) × HavePlaces indices values entries

-- the rows as if the gathered calls had run
abbrev pub final : Accepted → Emission → Gathered → Run
final f e g = placed e.indices (values_on f g.operands) e.rows

-- the indices and the gathered calls belong together
pub record Holds (f : Accepted) (e : Emission) (g : Gathered) : Type 0 where
  pub kind : g.kind ≡ f.kind
  pub indices : HavePlaces e.indices (values_on f g.operands) (entries_of e.rows)

abbrev pub standing : Accepted → Emission → Gathered → Standing
standing f e g = record { rows = final f e g; waiting = calls_on f g.operands; steps = e.steps }

-- calls were added, run or not yet, and the rows will be what `change` makes of them
pub record Does (f : Accepted) (calls : List Call) (change : Run → Run) (old : Emission) (was : Gathered) (new : Emission)
    (is : Gathered) : Type 0 where
  pub holds : Holds f new is
  pub adds : Adds calls change (standing f old was) (standing f new is)

-- a cell may be added at a column, and the steps of the calls that wait fit in
pub record CanAdd (f : Accepted) (column : ℕ) (e : Emission) (g : Gathered) : Type 0 where
  pub holds : Holds f e g
  pub fits : CanPush column (final f e g)
  pub capacity : e.steps + steps_of (calls_on f g.operands) < 2 ^ 64

-- a row of so many columns is begun, and the steps of these calls fit in after those of the calls that wait
pub record IsReady (f : Accepted) (columns : ℕ) (calls : List Call) (e : Emission) (g : Gathered) : Type 0 where
  pub holds : Holds f e g
  pub open_row : IsOpen columns (final f e g)
  pub capacity : e.steps + (steps_of (calls_on f g.operands) + steps_of calls) < 2 ^ 64

-- one thing was done; or, out of memory, some of the calls that waited ran
pub record Puts (f : Accepted) (calls : List Call) (change : Run → Run) (old : Emission) (was : Gathered) (new : Emission)
    (is : Gathered) (put : Result (Unit {0}) AllocError) : Type 0 where
  pub does : OnOk put (Does f calls change old was new is)
  pub spent : OnErr put (Charges (calls_on f was.operands) old.steps new.steps)

-- much was done; or, out of memory, some of the calls that waited and of those that were to come ran
pub record Fills (f : Accepted) (calls : List Call) (change : Run → Run) (old : Emission) (was : Gathered) (new : Emission)
    (is : Gathered) (filled : Result (Unit {0}) AllocError) : Type 0 where
  pub does : OnOk filled (Does f calls change old was new is)
  pub spent : OnErr filled ((rest : List Call) → Charges (calls_on f was.operands ++ (calls ++ rest)) old.steps new.steps)

-- all calls that waited ran
pub record IsFlushed (f : Accepted) (old : Emission) (was : Gathered) (new : Emission) (is : Gathered) : Type 0 where
  pub rows : new.rows ≡ final f old was
  pub steps : new.steps ≡ old.steps + steps_of (calls_on f was.operands)
  pub none : is.operands ≡ []
  pub kind : is.kind ≡ f.kind
