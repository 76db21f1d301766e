-- A row of A with one entry makes the row of B that it names, each word multiplied, and that alone is called.
use Rattle.std.proofs.Common.{◌≡◌, ℕ, suc, ◌+◌, ◌<◌, Bool, true, false, if◌then◌else◌, List, [], ◌∷◌, ◌++◌, Option, None, Some, length, drop, get_or, refl, sym, ap, ◌∙◌, subst, append_assoc, append-nil, arith}
use Rattle.std.proofs.lemmas.List.{drop_more}
use Rattle.std.specs.List.{AllByRecursion}
use Rattle.bpf_insn.specs.declared.operands.Operands.TheVariants.{Binary}
use Rattle.bpf_verify.specs.Accepted.{Accepted}
use Rattle.bpf_run.specs.Meaning.{value_of}
use Rattle.bpf_run.specs.Calls.{Call, call_of, calls_on, values_on, pairs_with}
use Rattle.bpf_run.specs.Fold.{fold, fold_calls}
use Rattle.csr_store.specs.Along.{along, cell_at, row_by}
use Rattle.csr_store.specs.Grid.{Grid, Cell, IsGrid, row_of}
use Rattle.csr_store.specs.Mask.{passes, row_under, listed_under}
use Rattle.csr_store.specs.Run.{Run}
use Rattle.csr_store.proofs.Along.{Ascends, along-row_of, each}
use Rattle.job_forms.specs.Product.{term, term_calls, terms, mul_calls, product_at, product_calls_at}
use Rattle.row_product.specs.inner.Adding.{taking}
use Rattle.row_product.specs.inner.Single.{multiplied, with_words, IsBehind}
use Rattle.row_product.proofs.Putting.{cells_below, cells_joined, same_run}

-- ---- what is put

pub words_by_terms : (mul : Accepted) (x : ℕ) (cs : List Cell) → with_words cs (values_on mul
    (pairs_with x cs)) ≡ multiplied mul x cs
words_by_terms mul x [] = refl
words_by_terms mul x (c ∷ cs) = ap (λ us. (c.0, value_of mul (Binary x c.1)) ∷ us) (words_by_terms mul x cs)

pub multiplied-append : (mul : Accepted) (x : ℕ) (cs ds : List Cell) → multiplied mul x
    (cs ++ ds) ≡ multiplied mul x cs ++ multiplied
    mul x ds
multiplied-append mul x [] ds = refl
multiplied-append mul x (c ∷ cs) ds = ap (λ us. (c.0, value_of mul (Binary x c.1)) ∷ us) (multiplied-append mul x cs ds)

pub calls_by_parts : (mul : Accepted) (x : ℕ) (cs ds : List Cell)
    → calls_on mul (pairs_with x (cs ++ ds)) ≡ calls_on mul (pairs_with x cs) ++ calls_on mul (pairs_with x ds)
calls_by_parts mul x [] ds = refl
calls_by_parts mul x (c ∷ cs) ds = ap (λ us. call_of mul (Binary x c.1) ∷ us) (calls_by_parts mul x cs ds)

behind_cell : (n : ℕ) (os : List Cell) (c : Cell) (v : ℕ) (cs : List Cell) → IsBehind n os (c ∷ cs)
    → IsBehind n (os ++ (c.0, v) ∷ []) cs
behind_cell n os c v cs m =
    let l = m.ascends.0 in
    record {
      low = suc c.0;
      below = cells_joined (suc c.0) os ((c.0, v) ∷ []) (cells_below m.low (suc c.0) os (omega (arith, l)) m.below)
          (omega arith, tt);
      ascends = m.ascends.2;
    }

pub behind_cells : (n : ℕ) (os : List Cell) (x : ℕ) (mul : Accepted) (cs ds : List Cell) → IsBehind n os (cs ++ ds)
    → IsBehind n (os ++ multiplied mul x cs) ds
behind_cells n os x mul [] ds m = subst (λ us. IsBehind n us ds) (sym (append-nil os)) m
behind_cells n os x mul (c ∷ cs) ds m =
    let v = value_of mul (Binary x c.1) in
    subst (λ us. IsBehind n us ds) (append_assoc os ((c.0, v) ∷ []) (multiplied mul x cs))
    (behind_cells n (os ++ (c.0, v) ∷ []) x mul cs ds (behind_cell n os c v (cs ++ ds) m))

pub behind_first : (n : ℕ) (os cs ds : List Cell) → IsBehind n os (cs ++ ds) → IsBehind n os cs
behind_first n os cs ds m = record { low = m.low; below = m.below; ascends = first m.low cs m.ascends }
  where
    first : (low : ℕ) (cs : List Cell) → Ascends low n (cs ++ ds) → Ascends low n cs
    first low [] h = tt
    first low (c ∷ cs) h = (h.0, h.1, first (suc c.0) cs h.2)

-- ---- cell by cell

-- what was put, with what is left, is the whole
pub record Pushing (from : Run) (whole : List Cell) (now : Run) (rest left : List Cell) : Type 0 where
  pub run : now ≡ record from { opened = now.opened }
  pub listed : now.opened ++ left ≡ from.opened ++ whole
  pub behind : IsBehind from.columns now.opened rest

pub pushing_start : (from : Run) (whole rest : List Cell) → IsBehind from.columns from.opened rest
    → Pushing from whole from rest whole
pushing_start from whole rest b = record { run = refl; listed = refl; behind = b }

listed_more : (os cs left whole : List Cell) (next : List Cell) → next ≡ os ++ cs → os ++ (cs ++ left) ≡ whole
    → next ++ left ≡ whole
listed_more os cs left whole next e m = ap (λ us. us ++ left) e ∙ (append_assoc os cs left ∙ m)

pub pushing_step : (from : Run) (whole : List Cell) (now : Run) (rest left : List Cell) (c : Cell) (v : ℕ) (more later : List Cell)
    (next : Run) → Pushing from whole now rest left → rest ≡ c ∷ more → left ≡ (c.0, v) ∷ later
    → next ≡ record now { opened = now.opened ++ (c.0, v) ∷ [] } → Pushing from whole next more later
pushing_step from whole now rest left c v more later next m e f r =
    let o : next.opened ≡ now.opened ++ (c.0, v) ∷ [] = ap (λ (u : Run). u.opened) r in
    record {
      run = same_run from now next ((c.0, v) ∷ []) m.run r;
      listed = listed_more now.opened ((c.0, v) ∷ []) later (from.opened ++ whole) next.opened o
          (ap (λ us. now.opened ++ us) (sym f) ∙ m.listed);
      behind = subst (λ us. IsBehind from.columns us more) (sym o)
          (behind_cell from.columns now.opened c v more (subst (IsBehind from.columns now.opened) e m.behind));
    }

pub pushing_part : (mul : Accepted) (x : ℕ) (from : Run) (whole : List Cell) (now : Run) (rest cs ds : List Cell) (next : Run)
    → Pushing from whole now rest (multiplied mul x rest) → rest ≡ cs ++ ds
    → next ≡ record now { opened = now.opened ++ multiplied mul x cs } → Pushing from whole next ds (multiplied mul x ds)
pushing_part mul x from whole now rest cs ds next m e r =
    let o : next.opened ≡ now.opened ++ multiplied mul x cs = ap (λ (u : Run). u.opened) r in
    record {
      run = same_run from now next (multiplied mul x cs) m.run r;
      listed = listed_more now.opened (multiplied mul x cs) (multiplied mul x ds) (from.opened ++ whole) next.opened o
          (ap (λ us. now.opened ++ us) (sym (ap (multiplied mul x) e ∙ multiplied-append mul x cs ds)) ∙ m.listed);
      behind = subst (λ us. IsBehind from.columns us ds) (sym o)
          (behind_cells from.columns now.opened x mul cs ds (subst (IsBehind from.columns now.opened) e m.behind));
    }

pub pushing_end : (from : Run) (whole : List Cell) (now : Run) (rest left : List Cell) → Pushing from whole now rest left
    → left ≡ []
    → now ≡ record from { opened = from.opened ++ whole }
pushing_end from whole now rest left m e =
    m.run ∙ ap (λ os. record from { opened = os })
    (sym (append-nil now.opened) ∙ (ap (λ us. now.opened ++ us) (sym e) ∙ m.listed))

pub pushing_column : (from : Run) (whole : List Cell) (now : Run) (rest left : List Cell) (c : Cell) (more : List Cell)
    → Pushing from whole now rest left → rest ≡ c ∷ more
    → AllByRecursion (λ (d : Cell). d.0 < c.0) now.opened × (c.0 < now.columns)
pushing_column from whole now rest left c more m e =
    let b = subst (IsBehind from.columns now.opened) e m.behind in
    let u = b.ascends.1 in
    let n = ap (λ (u : Run). u.columns) m.run in
    (cells_below b.low c.0 now.opened b.ascends.0 b.below, omega (arith, u, n))

pub with_words_more : (cs : List Cell) (ws : List ℕ) (k : ℕ) → k < length cs → length ws ≡ length cs
    → with_words (drop k cs) (drop k ws) ≡ ((get_or cs k (0, 0)).0, get_or ws k 0) ∷ with_words (drop (k + 1) cs) (drop (k + 1) ws)
with_words_more cs ws k l e =
    ap (λ us. with_words us (drop k ws)) (drop_more cs k (0, 0) l)
    ∙ ap (with_words (get_or cs k (0, 0) ∷ drop (k + 1) cs)) (drop_more ws k 0 (omega (arith, l, e)))

-- ---- what that is

module _ (add mul : Accepted) (x : ℕ) (t : ℕ → Bool) where
  no_value : (k : ℕ) → cell_at k (if t k then fold add (term mul x None ++ []) else None) ≡ []
  no_value k = by_test (t k)
    where
      by_test : (b : Bool) → cell_at k (if b then None else None) ≡ []
      by_test true = refl
      by_test false = refl

  no_call : (k : ℕ) → (if t k then (term_calls mul x None ++ []) ++ fold_calls add (term mul x None ++ []) else []) ≡ []
  no_call k = by_test (t k)
    where
      by_test : (b : Bool) → (let none : List Call = [] in if b then none else none) ≡ []
      by_test true = refl
      by_test false = refl

  values_each : (cs : List Cell)
      → each (λ j o. cell_at j (if t j then fold add (term mul x o ++ []) else None)) cs ≡ multiplied mul x (taking t cs)
  values_each [] = refl
  values_each (c ∷ cs) = ap (λ us. cell_at c.0 (if t c.0 then Some (value_of mul (Binary x c.1)) else None) ++ us) (values_each cs)
      ∙ by_test (t c.0)
    where
      by_test : (b : Bool) → cell_at c.0 (if b then Some (value_of mul (Binary x c.1)) else None) ++ multiplied mul x (taking t cs)
          ≡ multiplied mul x (if b then c ∷ taking t cs else taking t cs)
      by_test true = refl
      by_test false = refl

  calls_each : (cs : List Cell)
      → each (λ j o. if t j then (term_calls mul x o ++ []) ++ fold_calls add (term mul x o ++ []) else []) cs
      ≡ calls_on mul (pairs_with x (taking t cs))
  calls_each [] = refl
  calls_each (c ∷ cs) = ap (λ us. (if t c.0 then call_of mul (Binary x c.1) ∷ [] else []) ++ us) (calls_each cs) ∙ by_test (t c.0)
    where
      by_test : (b : Bool) → (if b then call_of mul (Binary x c.1) ∷ [] else []) ++ calls_on mul (pairs_with x (taking t cs))
          ≡ calls_on mul (pairs_with x (if b then c ∷ taking t cs else taking t cs))
      by_test true = refl
      by_test false = refl

pub row_of_one : (add mul : Accepted) (a b : Grid) (mask : Option Grid) (i : ℕ) (c : Cell) → IsGrid b → row_of a i ≡ c ∷ []
    → multiplied mul c.1 (taking (λ j. passes mask (i, j)) (row_of b c.0)) ≡ row_under mask b.columns (product_at add mul a b) i
row_of_one add mul a b mask i c g e =
    let t : ℕ → Bool = λ j. passes mask (i, j) in
    sym (ap (λ us. row_by b.columns (λ j. if t j then fold add (terms mul b us j) else None)) e
    ∙ (along-row_of (λ j o. cell_at j (if t j then fold add (term mul c.1 o ++ []) else None)) (no_value add mul c.1 t) b c.0 g
    ∙ values_each add mul c.1 t (row_of b c.0)))

pub calls_of_one : (add mul : Accepted) (a b : Grid) (mask : Option Grid) (i : ℕ) (c : Cell) → IsGrid b → row_of a i ≡ c ∷ []
    → calls_on mul (pairs_with c.1 (taking (λ j. passes mask (i, j)) (row_of b c.0)))
    ≡ listed_under mask b.columns (product_calls_at add mul a b) i
calls_of_one add mul a b mask i c g e =
    let t : ℕ → Bool = λ j. passes mask (i, j) in
    sym (ap (λ us. along (λ j. if t j then mul_calls mul b us j ++ fold_calls add (terms mul b us j) else []) 0 b.columns) e
    ∙ (along-row_of (λ j o. if t j then (term_calls mul c.1 o ++ []) ++ fold_calls add (term mul c.1 o ++ []) else [])
    (no_call add mul c.1 t) b c.0 g
    ∙ calls_each add mul c.1 t (row_of b c.0)))
