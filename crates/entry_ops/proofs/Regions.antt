-- A region from its beginning to its end.
use Rattle.std.proofs.Common.{◌≡◌, ◌≤◌, ◌<◌, ◌+◌, ◌-◌, ◌^◌, ℕ, List, [], ◌++◌, Option, Result, Ok, Err, OnOk, OnErr, ap, ◌∙◌, subst, arith, append-nil}
use Rattle.bpf_verify.specs.Accepted.{Accepted, IsAccepted}
use Rattle.csr_store.specs.Grid.{Grid, IsGrid}
use Rattle.csr_store.specs.Run.{Row, Run}
use Rattle.bpf_run.specs.Calls.{Call, steps_of, Charges}
use Rattle.bpf_run.proofs.Charging.{charges-all, charges-none}
use Rattle.std.specs.declared.alloc.AllocError.{AllocError}
use Rattle.job_forms.specs.Region.{IsMade, finished}
use Rattle.job_forms.specs.declared.region.Chunk.{Chunk}
use Rattle.job_forms.specs.declared.region.Making.{Making}
use Rattle.entry_ops.specs.inner.Forms.{Form}
use Rattle.entry_ops.specs.inner.Standing.{Standing, Adds}
use Rattle.entry_ops.specs.inner.Walking.{kind_for, form_all_calls, with_rows}
use Rattle.entry_ops.proofs.Bounds.{few_in_all}
use Rattle.entry_ops.proofs.Standing.{empty_run, adds-costs}

module _ (first columns : ℕ) (s : Standing) (rows : s.rows ≡ empty_run first columns) (none : s.waiting ≡ [])
    (steps : s.steps ≡ 0) where
  -- out of memory on the way
  pub begin-stop : (all : List Call) (spent : ℕ) → ((rest : List Call) → Charges (s.waiting ++ (all ++ rest)) s.steps spent)
      → Charges all 0 spent
  begin-stop all spent h =
      subst (λ n. Charges all n spent) steps (subst (λ cs. Charges cs s.steps spent)
      (ap (λ cs. cs ++ (all ++ [])) none ∙ append-nil all) (h []))

  module _ (all : List Call) (more : List Row) (t : Standing) (done : Adds all (with_rows more) s t) where
    -- what was made and what waits costs as much as all
    pub whole-costs : t.steps + steps_of t.waiting ≡ steps_of all
    whole-costs =
        let c = adds-costs all (with_rows more) s t done in
        let o = ap steps_of none in
        omega arith

    pub whole-rows : t.rows ≡ record { first = first; columns = columns; ended = more; opened = [] }
    whole-rows = done.rows ∙ ap (with_rows more) rows

    pub whole-spent : (spent : ℕ) → spent ≡ t.steps + steps_of t.waiting → Charges all 0 spent
    whole-spent spent h = let w = whole-costs in charges-all all 0 spent (omega arith)

-- the steps of all calls fit
pub begin-room : (f : Accepted) (form : Form) (a : Grid) (b mask : Option Grid) (start to : ℕ) (s : Standing) → s.steps ≡ 0
    → s.waiting ≡ [] → IsAccepted f → f.kind ≡ kind_for form → IsGrid a → to ≤ a.rows
    → s.steps + (steps_of s.waiting + steps_of (form_all_calls form f a b mask start (to - start))) < 2 ^ 64
begin-room f form a b mask start to s z n is kind grid within =
    let few = few_in_all f is form a b mask start (to - start) kind grid (omega arith) in
    let none = ap steps_of n in
    omega arith

-- what was being made is told, unless memory was refused
pub told_is : (filled : Result (Unit {0}) AllocError) (run : Run) (calls : List Call) (m : Making) (made : Chunk) → made ≡ finished m filled
    → OnOk filled (m.rows ≡ run) → OnOk filled (m.steps ≡ steps_of calls) → OnErr filled (Charges calls 0 m.steps)
    → IsMade run calls made
told_is (Ok x) run calls m made e r s q = rw e (record { rows = r; steps = s; spent = tt })
told_is (Err x) run calls m made e r s q = rw e (record { rows = tt; steps = tt; spent = q })

-- no call was made
pub told_none : (filled : Result (Unit {0}) AllocError) (run : Run) (m : Making) (made : Chunk) → made ≡ finished m filled
    → OnOk filled (m.rows ≡ run) → m.steps ≡ 0 → IsMade run [] made
told_none filled run m made e r s =
    told_is filled run [] m made e r (holds filled s) (failed filled (rw s (charges-none [] 0)))
  where
    holds : {P : Type 0} (f : Result (Unit {0}) AllocError) → P → OnOk f P
    holds (Ok x) p = p
    holds (Err x) p = tt

    failed : {P : Type 0} (f : Result (Unit {0}) AllocError) → P → OnErr f P
    failed (Ok x) p = tt
    failed (Err x) p = p
