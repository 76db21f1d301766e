-- The terms of a row of the product in a list: what stands in it at each column, and what its calls cost.
use Rattle.std.proofs.Common.{◌≡◌, ℕ, suc, ◌+◌, ◌*◌, ◌<◌, ◌≤◌, Bool, true, false, List, [], ◌∷◌, ◌++◌, Option, None, Some, length, refl, sym, ap, ◌∙◌, subst, inl, inr, append_assoc, arith, if◌then◌else◌}
use Rattle.std.proofs.lemmas.Bool.{ne_eqb}
use Rattle.std.proofs.lemmas.Bool.Decides.{eqb_tells}
use Rattle.std.proofs.lemmas.List.{length-append}
use Rattle.std.specs.FinMap.{get}
use Rattle.std.specs.List.{AllByRecursion}
use Rattle.std.specs.Prelude.{nat_eq}
use Rattle.bpf_insn.specs.declared.operands.Operands.TheVariants.{Binary}
use Rattle.bpf_verify.specs.Accepted.{Accepted}
use Rattle.bpf_run.specs.Calls.{Call, steps_of, call_of, calls_on, pairs_with}
use Rattle.bpf_run.specs.Meaning.{value_of, cost_of}
use Rattle.bpf_run.proofs.Charging.{steps-append}
use Rattle.csr_store.specs.Along.{along}
use Rattle.csr_store.specs.Grid.{Grid, Cell, IsGrid, limit, row_of}
use Rattle.csr_store.proofs.Along.{Ascends, at, at-below, at-first, along-none, along-row_of, each, length-row_of, row_of-ascends}
use Rattle.csr_store.proofs.ByRow.{lookup-row_of}
use Rattle.job_forms.specs.Product.{term, term_calls, terms, mul_calls, mults_of}
use Rattle.row_product.specs.inner.Adding.{taking}
use Rattle.row_product.specs.inner.SortedAccumulator.{words_at, listed_terms, listed_calls}
use Rattle.row_product.specs.inner.Single.{multiplied}
use Rattle.row_product.proofs.Adding.{at_other}
use Rattle.row_product.proofs.Gathering.{steps-along-sum}
use Rattle.row_product.proofs.Putting.{cells_joined}

-- ---- words at a column

words_append : (xs ys : List Cell) (j : ℕ) → words_at (xs ++ ys) j ≡ words_at xs j ++ words_at ys j
words_append [] ys j = refl
words_append (c ∷ cs) ys j =
    ap (λ (us : List ℕ). if nat_eq j c.0 then c.1 ∷ us else us) (words_append cs ys j) ∙ by_test (nat_eq j c.0)
  where
    by_test : (b : Bool) → (if b then c.1 ∷ (words_at cs j ++ words_at ys j) else (words_at cs j ++ words_at ys j))
        ≡ (if b then c.1 ∷ words_at cs j else words_at cs j) ++ words_at ys j
    by_test true = refl
    by_test false = refl

pub words_other : (c : Cell) (cs : List Cell) (j : ℕ) → (j ≡ c.0 → ⊥) → words_at (c ∷ cs) j ≡ words_at cs j
words_other c cs j n = ap (λ (b : Bool). if b then c.1 ∷ words_at cs j else words_at cs j) (ne_eqb j c.0 n)

pub words_same : (c : Cell) (cs : List Cell) → words_at (c ∷ cs) c.0 ≡ c.1 ∷ words_at cs c.0
words_same c cs = elim (eqb_tells c.0 c.0) [
  | inl d ↦ ap (λ (b : Bool). if b then c.1 ∷ words_at cs c.0 else words_at cs c.0) d.0
  | inr d ↦ absurd (d.1 refl)
]

module _ (mul : Accepted) (x : ℕ) (t : ℕ → Bool) where
  abbrev term_of : Bool → Option ℕ → List ℕ
  term_of b o = if b then term mul x o else []

  no_term : (b : Bool) → term_of b None ≡ []
  no_term true = refl
  no_term false = refl

  -- at the column of the first of some cells
  words_here : (c : Cell) (cs : List Cell) (b : Bool) → words_at (multiplied mul x (taking t cs)) c.0 ≡ []
      → words_at (multiplied mul x (if b then c ∷ taking t cs else taking t cs)) c.0 ≡ term_of b (Some c.1)
  words_here c cs true h =
      words_same (c.0, value_of mul (Binary x c.1)) (multiplied mul x (taking t cs)) ∙ ap (λ us. value_of mul (Binary x c.1) ∷ us) h
  words_here c cs false h = h

  -- at another one
  words_there : (c : Cell) (cs : List Cell) (j : ℕ) (b : Bool) → (j ≡ c.0 → ⊥)
      → words_at (multiplied mul x (if b then c ∷ taking t cs else taking t cs)) j ≡ words_at (multiplied mul x (taking t cs)) j
  words_there c cs j true n = words_other (c.0, value_of mul (Binary x c.1)) (multiplied mul x (taking t cs)) j n
  words_there c cs j false n = refl

  words_of_row : (low n : ℕ) (cs : List Cell) (j : ℕ) → Ascends low n cs
      → words_at (multiplied mul x (taking t cs)) j ≡ term_of (t j) (at cs j)
  words_of_row low n [] j h = sym (no_term (t j))
  words_of_row low n (c ∷ cs) j h = elim (eqb_tells j c.0) [
    | inl d ↦ subst (λ k. words_at (multiplied mul x (taking t (c ∷ cs))) k ≡ term_of (t k) (at (c ∷ cs) k)) (sym d.1)
        (words_here c cs (t c.0) (words_of_row (suc c.0) n cs c.0 h.2
        ∙ (ap (term_of (t c.0)) (at-below (suc c.0) n cs c.0 h.2 (omega arith)) ∙ no_term (t c.0)))
        ∙ ap (term_of (t c.0)) (sym (at-first c cs)))
    | inr d ↦ words_there c cs j (t c.0) d.1
        ∙ (words_of_row (suc c.0) n cs j h.2 ∙ ap (term_of (t j)) (sym (at_other c cs j d.1)))
  ]

  no_call : (k : ℕ) → (if t k then term_calls mul x None else []) ≡ []
  no_call k = by_test (t k)
    where
      by_test : (b : Bool) → (let none : List Call = [] in if b then none else none) ≡ []
      by_test true = refl
      by_test false = refl

  calls_each : (cs : List Cell)
      → each (λ j o. if t j then term_calls mul x o else []) cs ≡ calls_on mul (pairs_with x (taking t cs))
  calls_each [] = refl
  calls_each (c ∷ cs) = ap (λ us. (if t c.0 then call_of mul (Binary x c.1) ∷ [] else []) ++ us) (calls_each cs) ∙ by_test (t c.0)
    where
      by_test : (b : Bool) → (if b then call_of mul (Binary x c.1) ∷ [] else []) ++ calls_on mul (pairs_with x (taking t cs))
          ≡ calls_on mul (pairs_with x (if b then c ∷ taking t cs else taking t cs))
      by_test true = refl
      by_test false = refl

  calls_of_row_of : (b : Grid) (k : ℕ) → IsGrid b
      → along (λ j. if t j then term_calls mul x (get b.cells (k, j)) else []) 0 b.columns
      ≡ calls_on mul (pairs_with x (taking t (row_of b k)))
  calls_of_row_of b k g = along-row_of (λ j o. if t j then term_calls mul x o else []) no_call b k g ∙ calls_each (row_of b k)

-- ---- of a whole row of A

module _ (mul : Accepted) (b : Grid) (g : IsGrid b) (t : ℕ → Bool) where
  pub words_listed : (cs : List Cell) (j : ℕ) → words_at (listed_terms mul b t cs) j ≡ (if t j then terms mul b cs j else [])
  words_listed [] j = by_test (t j)
    where
      by_test : (b : Bool) → (let none : List ℕ = [] in none ≡ (if b then none else none))
      by_test true = refl
      by_test false = refl
  words_listed (c ∷ cs) j =
      words_append (multiplied mul c.1 (taking t (row_of b c.0))) (listed_terms mul b t cs) j
      ∙ (ap (λ us. us ++ words_at (listed_terms mul b t cs) j)
      (words_of_row mul c.1 t 0 b.columns (row_of b c.0) j (row_of-ascends b c.0 g)
      ∙ ap (term_of mul c.1 t (t j)) (lookup-row_of b c.0 j))
      ∙ (ap (λ us. term_of mul c.1 t (t j) (get b.cells (c.0, j)) ++ us) (words_listed cs j)
      ∙ by_test (t j) (term mul c.1 (get b.cells (c.0, j))) (terms mul b cs j)))
    where
      by_test : (b : Bool) (us vs : List ℕ) → (if b then us else []) ++ (if b then vs else []) ≡ (if b then us ++ vs else [])
      by_test true us vs = refl
      by_test false us vs = refl

  pub steps_listed : (cs : List Cell)
      → steps_of (listed_calls mul b t cs) ≡ steps_of (along (λ j. if t j then mul_calls mul b cs j else []) 0 b.columns)
  steps_listed [] = ap steps_of (sym (along-none (λ j. if t j then mul_calls mul b [] j else []) 0 b.columns (λ j. by_test (t j))))
    where
      by_test : (b : Bool) → (let none : List Call = [] in (if b then none else none) ≡ none)
      by_test true = refl
      by_test false = refl
  steps_listed (c ∷ cs) =
      let one = λ (j : ℕ). if t j then term_calls mul c.1 (get b.cells (c.0, j)) else [] in
      let more = λ (j : ℕ). if t j then mul_calls mul b cs j else [] in
      let all = λ (j : ℕ). if t j then mul_calls mul b (c ∷ cs) j else [] in
      let r = steps_listed cs in
      let h = ap steps_of (calls_of_row_of mul c.1 t b c.0 g) in
      let s = steps-along-sum one more all 0 b.columns
      (λ j. by_test (t j) (term_calls mul c.1 (get b.cells (c.0, j))) (mul_calls mul b cs j)) in
      let a = steps-append (calls_on mul (pairs_with c.1 (taking t (row_of b c.0)))) (listed_calls mul b t cs) in
      omega (arith, r, h, s, a)
    where
      by_test : (b : Bool) (us vs : List Call)
          → steps_of (if b then us ++ vs else []) ≡ steps_of (if b then us else []) + steps_of (if b then vs else [])
      by_test true us vs = steps-append us vs
      by_test false us vs = omega arith

  below_taken : (mul : Accepted) (x low : ℕ) (cs : List Cell) → Ascends low b.columns cs
      → AllByRecursion (λ (c : Cell). c.0 < b.columns) (multiplied mul x (taking t cs))
  below_taken mul x low [] h = tt
  below_taken mul x low (c ∷ cs) h = by_test (t c.0) (below_taken mul x (suc c.0) cs h.2)
    where
      by_test : (q : Bool) → AllByRecursion (λ (d : Cell). d.0 < b.columns) (multiplied mul x (taking t cs))
          → AllByRecursion (λ (d : Cell). d.0 < b.columns) (multiplied mul x (if q then c ∷ taking t cs else taking t cs))
      by_test true r = (h.1, r)
      by_test false r = r

  pub listed_below : (cs : List Cell) → AllByRecursion (λ (c : Cell). c.0 < b.columns) (listed_terms mul b t cs)
  listed_below [] = tt
  listed_below (c ∷ cs) =
      cells_joined b.columns (multiplied mul c.1 (taking t (row_of b c.0))) (listed_terms mul b t cs)
      (below_taken mul c.1 0 (row_of b c.0) (row_of-ascends b c.0 g)) (listed_below cs)

length_taken : (mul : Accepted) (x : ℕ) (t : ℕ → Bool) (cs : List Cell) → length (multiplied mul x (taking t cs)) ≤ length cs
length_taken mul x t [] = omega arith
length_taken mul x t (c ∷ cs) = by_test (t c.0) (length_taken mul x t cs)
  where
    by_test : (q : Bool) → length (multiplied mul x (taking t cs)) ≤ length cs
        → length (multiplied mul x (if q then c ∷ taking t cs else taking t cs)) ≤ suc (length cs)
    by_test true r = omega (arith, r)
    by_test false r = omega (arith, r)

pub length_listed : (mul : Accepted) (b : Grid) (t : ℕ → Bool) (cs : List Cell) → length (listed_terms mul b t cs) ≤ mults_of b cs
length_listed mul b t [] = omega arith
length_listed mul b t (c ∷ cs) =
    let a = length-append (multiplied mul c.1 (taking t (row_of b c.0))) (listed_terms mul b t cs) in
    let h = length_taken mul c.1 t (row_of b c.0) in
    let r = length_listed mul b t cs in
    omega (arith, a, h, r)

-- ---- cell by cell

module _ (mul : Accepted) (x : ℕ) (t : ℕ → Bool) where
  taken : (c : Cell) (cs : List Cell) (b : Bool) → t c.0 ≡ b
      → taking t (c ∷ cs) ≡ (if b then c ∷ taking t cs else taking t cs)
  taken c cs b e = ap (λ (q : Bool). if q then c ∷ taking t cs else taking t cs) e

  pub take_cell : (os whole : List Cell) (c : Cell) (cs : List Cell) → t c.0 ≡ true → os ++ multiplied mul x
      (taking t (c ∷ cs)) ≡ whole
      → (os ++ (c.0, value_of mul (Binary x c.1)) ∷ []) ++ multiplied mul x (taking t cs) ≡ whole
  take_cell os whole c cs e h =
      append_assoc os ((c.0, value_of mul (Binary x c.1)) ∷ []) (multiplied mul x (taking t cs))
      ∙ (ap (λ us. os ++ multiplied mul x us) (sym (taken c cs true e)) ∙ h)

  pub take_steps : (s total : ℕ) (c : Cell) (cs : List Cell) → t c.0 ≡ true
      → s + steps_of (calls_on mul (pairs_with x (taking t (c ∷ cs)))) ≡ total
      → (s + cost_of mul (Binary x c.1)) + steps_of (calls_on mul (pairs_with x (taking t cs))) ≡ total
  take_steps s total c cs e h =
      let q = ap (λ us. steps_of (calls_on mul (pairs_with x us))) (taken c cs true e) in omega (arith, q, h)

  pub pass_cell : (os whole : List Cell) (c : Cell) (cs : List Cell) → t c.0 ≡ false → os ++ multiplied mul x
      (taking t (c ∷ cs)) ≡ whole
      → os ++ multiplied mul x (taking t cs) ≡ whole
  pass_cell os whole c cs e h = ap (λ us. os ++ multiplied mul x us) (sym (taken c cs false e)) ∙ h

  pub pass_steps : (s total : ℕ) (c : Cell) (cs : List Cell) → t c.0 ≡ false
      → s + steps_of (calls_on mul (pairs_with x (taking t (c ∷ cs)))) ≡ total
      → s + steps_of (calls_on mul (pairs_with x (taking t cs))) ≡ total
  pass_steps s total c cs e h =
      let q = ap (λ us. steps_of (calls_on mul (pairs_with x us))) (taken c cs false e) in omega (arith, q, h)

-- ---- row of B by row of B

pub list_row : (mul : Accepted) (b : Grid) (t : ℕ → Bool) (os whole : List Cell) (c : Cell) (cs rest : List Cell) (new : List Cell)
    → new ≡ os ++ multiplied mul c.1 (taking t (row_of b c.0)) → rest ≡ c ∷ cs → os ++ listed_terms mul b t rest ≡ whole
    → new ++ listed_terms mul b t cs ≡ whole
list_row mul b t os whole c cs rest new n e h =
    ap (λ us. us ++ listed_terms mul b t cs) n
    ∙ (append_assoc os (multiplied mul c.1 (taking t (row_of b c.0))) (listed_terms mul b t cs)
    ∙ (ap (λ us. os ++ listed_terms mul b t us) (sym e) ∙ h))

pub list_steps : (mul : Accepted) (b : Grid) (t : ℕ → Bool) (s r total : ℕ) (c : Cell) (cs rest : List Cell)
    → r ≡ steps_of (calls_on mul (pairs_with c.1 (taking t (row_of b c.0)))) → rest ≡ c ∷ cs
    → s + steps_of (listed_calls mul b t rest) ≡ total → (s + r) + steps_of (listed_calls mul b t cs) ≡ total
list_steps mul b t s r total c cs rest n e h =
    let q = ap (λ us. steps_of (listed_calls mul b t us)) e in
    let a = steps-append (calls_on mul (pairs_with c.1 (taking t (row_of b c.0)))) (listed_calls mul b t cs) in
    omega (arith, q, a, h, n)

pub list_long : (mul : Accepted) (b : Grid) (t : ℕ → Bool) (os : List Cell) (n : ℕ) (c : Cell) (cs rest : List Cell) (new : List Cell)
    → new ≡ os ++ multiplied mul c.1 (taking t (row_of b c.0)) → rest ≡ c ∷ cs → length os + mults_of b rest ≤ n
    → length new + mults_of b cs ≤ n
list_long mul b t os n c cs rest new e r h =
    let q = ap (mults_of b) r in
    let l = ap length e in
    let a = length-append os (multiplied mul c.1 (taking t (row_of b c.0))) in
    let k = length_taken mul c.1 t (row_of b c.0) in
    omega (arith, q, l, a, k, h)

-- a row of A names no more words than rows of B may have
pub mults_few : (b : Grid) (cs : List Cell) → IsGrid b → mults_of b cs ≤ limit * length cs
mults_few b [] g = omega arith
mults_few b (c ∷ cs) g =
    let r = length-row_of b c.0 g in
    let s = g.columns_small in
    let h = mults_few b cs g in
    omega (arith, r, s, h)
