-- Terms of one row of B added to the sums of a row: the cells that take part, what they make of the sums, and additions that are
-- made together. This project's own.
use Rattle.std.specs.Prelude.{◌≡◌, ◌≤◌, ◌<◌, ◌^◌, ℕ, Bool, if◌then◌else◌, List, [], ◌∷◌, ◌++◌}
use Rattle.std.specs.Prelude.{Option, Some, length, set}
use Rattle.std.specs.List.{AllByRecursion}
use Rattle.bpf_insn.specs.declared.operands.Operands.{Operands}
use Rattle.bpf_insn.specs.declared.operands.Operands.TheVariants.{Binary}
use Rattle.bpf_insn.specs.declared.operands.Kind.TheVariants as kinds
use Rattle.bpf_verify.specs.Accepted.{Accepted}
use Rattle.csr_store.specs.Ascending.{Ascends}
use Rattle.csr_store.specs.Grid.{Cell}
use Rattle.bpf_run.specs.Calls.{Call, steps_of, calls_on, values_on}
use Rattle.row_product.specs.inner.Sums.{slot, after, extra, added, added_calls}

-- the cells whose column takes part
abbrev pub taking : (ℕ → Bool) → List Cell → List Cell
taking t [] = []
taking t (c ∷ cs) = if t c.0 then c ∷ taking t cs else taking t cs

-- the sums after cells of a row of B, times x, and the calls that they take
abbrev pub sums_after : Accepted → Accepted → ℕ → List (Option ℕ) → List Cell → List (Option ℕ)
sums_after add mul x sums [] = sums
sums_after add mul x sums (c ∷ cs) =
    sums_after add mul x (set sums c.0 (after add mul x (slot sums c.0) (Some c.1))) cs

abbrev pub calls_after : Accepted → Accepted → ℕ → List (Option ℕ) → List Cell → List Call
calls_after add mul x sums [] = []
calls_after add mul x sums (c ∷ cs) = extra add mul x (slot sums c.0) (Some c.1)
    ++ calls_after add mul x (set sums c.0 (after add mul x (slot sums c.0) (Some c.1))) cs

-- the sums after terms at the columns of cells, and the calls of add that they take
abbrev pub put_terms : Accepted → List (Option ℕ) → List Cell → List ℕ → List (Option ℕ)
put_terms add sums [] ts = sums
put_terms add sums (c ∷ cs) [] = sums
put_terms add sums (c ∷ cs) (t ∷ ts) = put_terms add (set sums c.0 (Some (added add (slot sums c.0) t))) cs ts

abbrev pub put_calls : Accepted → List (Option ℕ) → List Cell → List ℕ → List Call
put_calls add sums [] ts = []
put_calls add sums (c ∷ cs) [] = []
put_calls add sums (c ∷ cs) (t ∷ ts) =
    added_calls add (slot sums c.0) t ++ put_calls add (set sums c.0 (Some (added add (slot sums c.0) t))) cs ts

-- terms of up to 64 cells of one row, where there are sums of n columns
pub record AreTerms (n : ℕ) (cs : List Cell) (ts : List ℕ) : Type 0 where
  pub few : length cs ≤ 64
  pub paired : length ts ≡ length cs
  pub apart : Ascends 0 n cs

-- the terms are put at the columns of the cells, and the steps are those of the calls
pub record ArePut (add : Accepted) (cs : List Cell) (ts : List ℕ) (old new : List (Option ℕ)) (s : ℕ) : Type 0 where
  pub sums : new ≡ put_terms add old cs ts
  pub steps : s ≡ steps_of (put_calls add old cs ts)

-- add takes two words, and the steps of putting the terms can be counted
pub record MayPut (add : Accepted) (sums : List (Option ℕ)) (cs : List Cell) (ts : List ℕ) : Type 0 where
  pub terms : AreTerms (length sums) cs ts
  pub kind : add.kind ≡ kinds.Binary
  pub capacity : steps_of (put_calls add sums cs ts) < 2 ^ 64

-- additions that run together, and the column of each
pub record Gathered : Type 0 where
  pub columns : List ℕ
  pub operands : List Operands

abbrev pub none_gathered : Gathered
none_gathered = record { columns = []; operands = [] }

abbrev pub gathered_one : Gathered → ℕ → ℕ → ℕ → Gathered
gathered_one g j s t = record { columns = g.columns ++ j ∷ []; operands = g.operands ++ Binary s t ∷ [] }

-- sums with values written at columns
abbrev pub written : List (Option ℕ) → List ℕ → List ℕ → List (Option ℕ)
written sums (k ∷ ks) (v ∷ vs) = written (set sums k (Some v)) ks vs
written sums (k ∷ ks) [] = sums
written sums [] vs = sums

-- all columns are below n
abbrev pub AreBelow : ℕ → List ℕ → Type 0
AreBelow n ks = AllByRecursion (λ k. k < n) ks

-- gathered additions run: their sums are written at their columns, and the steps are those of the calls
pub record AreAdded (add : Accepted) (g : Gathered) (old new : List (Option ℕ)) (s : ℕ) : Type 0 where
  pub sums : new ≡ written old g.columns (values_on add g.operands)
  pub steps : s ≡ steps_of (calls_on add g.operands)

-- terms that are written at the columns of cells, where the additions that are gathered are still to run
pub record IsMet (add : Accepted) (first : List (Option ℕ)) (cs : List Cell) (ts : List ℕ) (sums : List (Option ℕ))
    (g : Gathered) : Type 0 where
  pub sums_are : written sums g.columns (values_on add g.operands) ≡ put_terms add first cs ts
  pub steps_are : steps_of (calls_on add g.operands) ≡ steps_of (put_calls add first cs ts)
