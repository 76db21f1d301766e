-- A word that stands for those of a matrix: what is computed with it is the same, and costs the same.
use Rattle.std.proofs.Common.{◌≡◌, ◌≤◌, ◌<◌, ◌+◌, ◌*◌, ℕ, zero, suc, Bool, true, false, nat_eq, List, [], ◌∷◌, ◌++◌, Option, None, Some, length, map, drop, get_or, set, if◌then◌else◌, refl, sym, ap, ◌∙◌, subst, append-nil, arith}
use Rattle.std.proofs.Math.ListN.{length-set}
use Rattle.std.proofs.lemmas.List.{drop_more, length-append, length-map, get_or-map}
use Rattle.std.specs.FinMap.{get}
use Rattle.std.specs.List.{AllByRecursion}
use Rattle.bpf_insn.specs.declared.operands.Operands.TheVariants.{Binary}
use Rattle.bpf_verify.specs.Accepted.{Accepted}
use Rattle.bpf_run.specs.Calls.{steps_of}
use Rattle.bpf_run.specs.Fold.{fold, fold_calls}
use Rattle.bpf_run.specs.Meaning.{value_of, cost_of}
use Rattle.bpf_run.proofs.Charging.{steps-append}
use Rattle.csr_store.specs.Ascending.{Ascends}
use Rattle.csr_store.specs.Column.{column_of}
use Rattle.csr_store.specs.Columns.{columns_of}
use Rattle.csr_store.specs.Grid.{Grid, Cell, limit, row_of}
use Rattle.csr_store.proofs.Along.{ascends-weaken, length_ascends, row_of-ascends}
use Rattle.csr_store.proofs.ByBits as csr
use Rattle.csr_store.proofs.ByBits.{length_column}
use Rattle.csr_store.proofs.ByRow.{get-cell}
use Rattle.job_forms.specs.Product.{term, term_calls, terms, mul_calls}
use Rattle.job_forms.proofs.Counting.{row_few}
use Rattle.row_product.specs.declared.factors.MaskedFactors.{MaskedFactors}
use Rattle.row_product.specs.declared.term.Term.{Term}
use Rattle.row_product.specs.inner.Adding.{taking, sums_after, calls_after, AreBelow}
use Rattle.row_product.specs.inner.Column.{IsSummed, MaySum}
use Rattle.row_product.specs.inner.Masked.{AreMasked}
use Rattle.row_product.specs.inner.Rows.{AddsCells, AddsRowOfB}
use Rattle.row_product.specs.inner.StandIn.{IsLeftAs, IsRightAs, StandsOnLeft, StandsOnRight, AreRightAs, IsTerm, cells_with, taking_columns}
use Rattle.row_product.specs.inner.Sums.{slot, after, extra, added, added_calls}
use Rattle.row_product.proofs.Adding.{Adding, adding_start, adding_end, extra_few}
use Rattle.row_product.proofs.Parts.{adding_cells, after_few, taking_few, ascends_first}
use Rattle.row_product.proofs.Column.{SumsUp, sums_up_more, named_at}

-- ---- cells with another word

pub right_as_same : (mul : Accepted) (cs : List Cell) → AreRightAs mul cs cs
right_as_same mul [] = tt
right_as_same mul (c ∷ cs) = (refl, record { value = λ x. refl; cost = λ x. refl }, right_as_same mul cs)

pub right_as_with : (mul : Accepted) (w : ℕ) (cs : List Cell) → AllByRecursion (λ (c : Cell). IsRightAs mul c.1 w) cs
    → AreRightAs mul cs (cells_with w (columns_of cs))
right_as_with mul w [] h = tt
right_as_with mul w (c ∷ cs) h = (refl, h.0, right_as_with mul w cs h.1)

pub taking_with : (t : ℕ → Bool) (w : ℕ) (cs : List Cell)
    → taking t (cells_with w (columns_of cs)) ≡ cells_with w (columns_of (taking t cs))
taking_with t w [] = refl
taking_with t w (c ∷ cs) = by_test (t c.0) (taking_with t w cs)
  where
    by_test : (b : Bool) → taking t (cells_with w (columns_of cs)) ≡ cells_with w (columns_of (taking t cs))
        → (if b then (c.0, w) ∷ taking t (cells_with w (columns_of cs)) else taking t (cells_with w (columns_of cs)))
        ≡ cells_with w (columns_of (if b then c ∷ taking t cs else taking t cs))
    by_test true e = ap (λ us. (c.0, w) ∷ us) e
    by_test false e = e

pub all_taking : (P : Cell → Type 0) (t : ℕ → Bool) (cs : List Cell) → AllByRecursion P cs → AllByRecursion P (taking t cs)
all_taking P t [] h = tt
all_taking P t (c ∷ cs) h = by_test (t c.0) (all_taking P t cs h.1)
  where
    by_test : (b : Bool) → AllByRecursion P (taking t cs) → AllByRecursion P (if b then c ∷ taking t cs else taking t cs)
    by_test true r = (h.0, r)
    by_test false r = r

pub length_as : (mul : Accepted) (cs ds : List Cell) → AreRightAs mul cs ds → length cs ≡ length ds
length_as mul [] [] h = refl
length_as mul (c ∷ cs) (d ∷ ds) h = ap suc (length_as mul cs ds h.2)
length_as mul [] (d ∷ ds) h = absurd h
length_as mul (c ∷ cs) [] h = absurd h

pub ascends_as : (mul : Accepted) (low high : ℕ) (cs ds : List Cell) → AreRightAs mul cs ds → Ascends low high cs
    → Ascends low high ds
ascends_as mul low high [] [] h a = tt
ascends_as mul low high (c ∷ cs) (d ∷ ds) h a = (
  subst (λ j. low ≤ j) h.0 a.0,
  subst (λ j. suc j ≤ high) h.0 a.1,
  ascends_as mul (suc d.0) high cs ds h.2 (subst (λ j. Ascends (suc j) high cs) h.0 a.2),
)
ascends_as mul low high [] (d ∷ ds) h a = absurd h
ascends_as mul low high (c ∷ cs) [] h a = absurd h

pub ascends_with : (w low high : ℕ) (cs : List Cell) → Ascends low high cs → Ascends low high (cells_with w (columns_of cs))
ascends_with w low high [] a = tt
ascends_with w low high (c ∷ cs) a = (a.0, a.1, ascends_with w (suc c.0) high cs a.2)

-- ---- what is added

module _ (add mul : Accepted) (x : ℕ) where
  after_as : (s : Option ℕ) (v w : ℕ) → IsRightAs mul v w → after add mul x s (Some v) ≡ after add mul x s (Some w)
  after_as s v w h = ap (λ t. Some (added add s t)) (h.value x)

  extra_as : (s : Option ℕ) (v w : ℕ) → IsRightAs mul v w
      → steps_of (extra add mul x s (Some v)) ≡ steps_of (extra add mul x s (Some w))
  extra_as s v w h =
      let c = h.cost x in
      let t = ap (λ u. steps_of (added_calls add s u)) (h.value x) in
      omega (arith, c, t)

  pub sums_as : (sums : List (Option ℕ)) (cs ds : List Cell) → AreRightAs mul cs ds
      → sums_after add mul x sums cs ≡ sums_after add mul x sums ds
  sums_as sums [] [] h = refl
  sums_as sums (c ∷ cs) (d ∷ ds) h =
      ap (λ us. sums_after add mul x us cs)
      (ap (λ j. set sums j (after add mul x (slot sums j) (Some c.1))) h.0
      ∙ ap (set sums d.0) (after_as (slot sums d.0) c.1 d.1 h.1))
      ∙ sums_as (set sums d.0 (after add mul x (slot sums d.0) (Some d.1))) cs ds h.2
  sums_as sums [] (d ∷ ds) h = absurd h
  sums_as sums (c ∷ cs) [] h = absurd h

  pub calls_as : (sums : List (Option ℕ)) (cs ds : List Cell) → AreRightAs mul cs ds
      → steps_of (calls_after add mul x sums cs) ≡ steps_of (calls_after add mul x sums ds)
  calls_as sums [] [] h = refl
  calls_as sums (c ∷ cs) (d ∷ ds) h =
      let put = ap (λ j. set sums j (after add mul x (slot sums j) (Some c.1))) h.0
      ∙ ap (set sums d.0) (after_as (slot sums d.0) c.1 d.1 h.1) in
      let next = set sums d.0 (after add mul x (slot sums d.0) (Some d.1)) in
      let here = ap (λ j. steps_of (extra add mul x (slot sums j) (Some c.1))) h.0 ∙ extra_as (slot sums d.0) c.1 d.1 h.1 in
      let rest = ap (λ us. steps_of (calls_after add mul x us cs)) put ∙ calls_as next cs ds h.2 in
      let s = steps-append (extra add mul x (slot sums c.0) (Some c.1))
      (calls_after add mul x (set sums c.0 (after add mul x (slot sums c.0) (Some c.1))) cs) in
      let r = steps-append (extra add mul x (slot sums d.0) (Some d.1)) (calls_after add mul x next ds) in
      omega (arith, here, rest, s, r)
  calls_as sums [] (d ∷ ds) h = absurd h
  calls_as sums (c ∷ cs) [] h = absurd h

pub adds_as : (f : MaskedFactors) (x : ℕ) (cs ds : List Cell) (old new : List (Option ℕ)) (s : ℕ) → AreRightAs f.mul.now cs ds
    → AddsCells f x ds old new s → AddsCells f x cs old new s
adds_as f x cs ds old new s h a =
    let n = length_as f.mul.now cs ds h in
    let l = a.little in
    record {
      sums = a.sums ∙ sym (sums_as f.add.now f.mul.now x old cs ds h);
      steps = a.steps ∙ sym (calls_as f.add.now f.mul.now x old cs ds h);
      little = omega (arith, n, l);
    }

-- ---- words that stand for those of a matrix

all_at : (P : Cell → Type 0) (cs : List Cell) → ((k : ℕ) (d : Cell) → k < length cs → P (get_or cs k d)) → AllByRecursion P cs
all_at P [] h = tt
all_at P (c ∷ cs) h = (h zero c (omega arith), all_at P cs (λ k d l. h (suc k) d (omega (arith, l))))

pub row_on_left : (mul : Accepted) (g : Grid) (i w : ℕ) → StandsOnLeft mul g w
    → AllByRecursion (λ (c : Cell). IsLeftAs mul c.1 w) (row_of g i)
row_on_left mul g i w h =
    all_at (λ (c : Cell). IsLeftAs mul c.1 w) (row_of g i)
    (λ k d l. h (i, (get_or (row_of g i) k d).0) (get_or (row_of g i) k d).1 (get-cell g i k d l))

pub row_on_right : (mul : Accepted) (g : Grid) (i w : ℕ) → StandsOnRight mul g w
    → AllByRecursion (λ (c : Cell). IsRightAs mul c.1 w) (row_of g i)
row_on_right mul g i w h =
    all_at (λ (c : Cell). IsRightAs mul c.1 w) (row_of g i)
    (λ k d l. h (i, (get_or (row_of g i) k d).0) (get_or (row_of g i) k d).1 (get-cell g i k d l))

-- ---- a row of A with another word

pub length_with : (w : ℕ) (cs : List Cell) → length (cells_with w (columns_of cs)) ≡ length cs
length_with w [] = refl
length_with w (c ∷ cs) = ap suc (length_with w cs)

pub rows_with : (n w : ℕ) (cs : List Cell) → AllByRecursion (λ (c : Cell). c.0 < n) cs
    → AllByRecursion (λ (c : Cell). c.0 < n) (cells_with w (columns_of cs))
rows_with n w [] h = tt
rows_with n w (c ∷ cs) h = (h.0, rows_with n w cs h.1)

module _ (mul : Accepted) (b : Grid) (w j : ℕ) where
  term_as : (v : ℕ) (o : Option ℕ) → IsLeftAs mul v w → term mul v o ≡ term mul w o
  term_as v None h = refl
  term_as v (Some y) h = ap (λ t. t ∷ []) (h.value y)

  cost_as : (v : ℕ) (o : Option ℕ) → IsLeftAs mul v w → steps_of (term_calls mul v o) ≡ steps_of (term_calls mul w o)
  cost_as v None h = refl
  cost_as v (Some y) h = let c = h.cost y in omega (arith, c)

  terms_with : (cs : List Cell) → AllByRecursion (λ (c : Cell). IsLeftAs mul c.1 w) cs
      → terms mul b cs j ≡ terms mul b (cells_with w (columns_of cs)) j
  terms_with [] h = refl
  terms_with (c ∷ cs) h =
      ap (λ ts. ts ++ terms mul b cs j) (term_as c.1 (get b.cells (c.0, j)) h.0)
      ∙ ap (λ ts. term mul w (get b.cells (c.0, j)) ++ ts) (terms_with cs h.1)

  costs_with : (cs : List Cell) → AllByRecursion (λ (c : Cell). IsLeftAs mul c.1 w) cs
      → steps_of (mul_calls mul b cs j) ≡ steps_of (mul_calls mul b (cells_with w (columns_of cs)) j)
  costs_with [] h = refl
  costs_with (c ∷ cs) h =
      let o = get b.cells (c.0, j) in
      let here = cost_as c.1 o h.0 in
      let rest = costs_with cs h.1 in
      let s = steps-append (term_calls mul c.1 o) (mul_calls mul b cs j) in
      let r = steps-append (term_calls mul w o) (mul_calls mul b (cells_with w (columns_of cs)) j) in
      omega (arith, here, rest, s, r)

pub summed_as : (f : MaskedFactors) (w : ℕ) (cs : List Cell) (sum : Option ℕ) (steps : ℕ)
    → AllByRecursion (λ (c : Cell). IsLeftAs f.mul.now c.1 w) cs → IsSummed f (cells_with w (columns_of cs)) sum steps
    → IsSummed f cs sum steps
summed_as f w cs sum steps h a =
    let add = f.add.now in let mul = f.mul.now in let b = f.b.now in
    let ds = cells_with w (columns_of cs) in
    let ts = terms_with mul b w 0 cs h in
    let ms = costs_with mul b w 0 cs h in
    let fs = ap (λ us. steps_of (fold_calls add us)) ts in
    let s = steps-append (mul_calls mul b cs 0) (fold_calls add (terms mul b cs 0)) in
    let r = steps-append (mul_calls mul b ds 0) (fold_calls add (terms mul b ds 0)) in
    let e = a.steps_are in
    let l = a.little in
    let n = length_with w cs in
    record {
      value = a.value ∙ ap (fold add) (sym ts);
      steps_are = omega (arith, e, r, s, ms, fs);
      little = omega (arith, l, n);
    }

-- ---- a full column's words at some rows

pub length_listed : (w : ℕ) (js : List ℕ) → length (cells_with w js) ≡ length js
length_listed w [] = refl
length_listed w (j ∷ js) = ap suc (length_listed w js)

pub get_listed : (w : ℕ) (js : List ℕ) (k : ℕ) (d : Cell) → k < length js → get_or (cells_with w js) k d ≡ (get_or js k 0, w)
get_listed w [] k d l = absurd (omega (arith, l))
get_listed w (j ∷ js) zero d l = refl
get_listed w (j ∷ js) (suc k) d l = get_listed w js k d (omega (arith, l))

module _ (b : Grid) (words : List ℕ) (h : column_of b ≡ map (λ (w : ℕ). Some w) words) where
  pub many_words : length words ≡ b.rows
  many_words =
      let e = ap length h in
      let m = length-map words (λ (w : ℕ). Some w) in
      let n = length_column b in
      omega (arith, e, m, n)

  pub word_of : (k : ℕ) → k < b.rows → get b.cells (k, 0) ≡ Some (get_or words k 0)
  word_of k l =
      let m = many_words in
      sym (csr.column_at b k l)
      ∙ (ap (λ os. get_or os k None) h ∙ get_or-map (λ (w : ℕ). Some w) words k 0 None (omega (arith, l, m)))

-- the row that a column names is one of B
pub named_row : (f : MaskedFactors) (w : ℕ) (js : List ℕ) (k : ℕ) → MaySum f (cells_with w js) → k < length js
    → get_or js k 0 < f.b.now.rows
named_row f w js k h l =
    let n = length_listed w js in
    subst (λ (c : Cell). c.0 < f.b.now.rows) (get_listed w js k (0, 0) l)
    (named_at f.b.now.rows (cells_with w js) k (0, 0) h.named.rows (omega (arith, l, n)))

-- one term more
pub sums_up_next : (f : MaskedFactors) (w : ℕ) (js words : List ℕ) (n : ℕ) (sum : Option ℕ) (steps value cost next more : ℕ)
    → MaySum f (cells_with w js) → column_of f.b.now ≡ map (λ (v : ℕ). Some v) words → n < length js
    → SumsUp f.add.now f.mul.now f.b.now (cells_with w js) (drop n (cells_with w js)) sum steps
    → value ≡ value_of f.mul.now (Binary w (get_or words (get_or js n 0) 0))
    → cost ≡ cost_of f.mul.now (Binary w (get_or words (get_or js n 0) 0))
    → next ≡ added f.add.now sum value → more ≡ cost + steps_of (added_calls f.add.now sum value)
    → SumsUp f.add.now f.mul.now f.b.now (cells_with w js) (drop (n + 1) (cells_with w js)) (Some next) (steps + more)
sums_up_next f w js words n sum steps value cost next more h e l m v k a s =
    let row = cells_with w js in
    let c = get_listed w js n (0, 0) l in
    let many = length_listed w js in
    let g = f.mul.now in
    let word = get_or words (get_or js n 0) 0 in
    sums_up_more f.add.now g f.b.now row n (0, 0) sum (Some next) steps word value cost more true (omega (arith, l, many)) m
    h.factors.add_accepted h.factors.mul_accepted h.factors.add h.factors.mul
    (ap (λ (d : Cell). get f.b.now.cells (d.0, 0)) c ∙ word_of f.b.now words e (get_or js n 0) (named_row f w js n h l))
    (v ∙ ap (λ (d : Cell). value_of g (Binary d.1 word)) (sym c)) (k ∙ ap (λ (d : Cell). cost_of g (Binary d.1 word)) (sym c))
    (ap (λ u. Some u) a) s

pub not_empty : (b : Bool) (n : ℕ) → b ≡ nat_eq n 0 → b ≡ false → 0 < n
not_empty b zero e f = absurd (cc)
not_empty b (suc n) e f = omega arith

-- ---- columns of a row of B

pub taking_listed : (t : ℕ → Bool) (w : ℕ) (js : List ℕ) → taking t (cells_with w js) ≡ cells_with w (taking_columns t js)
taking_listed t w [] = refl
taking_listed t w (j ∷ js) = by_test (t j) (taking_listed t w js)
  where
    by_test : (b : Bool) → taking t (cells_with w js) ≡ cells_with w (taking_columns t js)
        → (if b then (j, w) ∷ taking t (cells_with w js) else taking t (cells_with w js))
        ≡ cells_with w (if b then j ∷ taking_columns t js else taking_columns t js)
    by_test true e = ap (λ us. (j, w) ∷ us) e
    by_test false e = e

pub listed_append : (w : ℕ) (js ks : List ℕ) → cells_with w (js ++ ks) ≡ cells_with w js ++ cells_with w ks
listed_append w [] ks = refl
listed_append w (j ∷ js) ks = ap (λ us. (j, w) ∷ us) (listed_append w js ks)

pub taking_append : (t : ℕ → Bool) (cs ds : List Cell) → taking t (cs ++ ds) ≡ taking t cs ++ taking t ds
taking_append t [] ds = refl
taking_append t (c ∷ cs) ds = by_test (t c.0) (taking_append t cs ds)
  where
    by_test : (b : Bool) → taking t (cs ++ ds) ≡ taking t cs ++ taking t ds
        → (if b then c ∷ taking t (cs ++ ds) else taking t (cs ++ ds)) ≡ (if b then c ∷ taking t cs else taking t cs) ++ taking t ds
    by_test true e = ap (λ us. c ∷ us) e
    by_test false e = e

module _ (add mul : Accepted) (x : ℕ) where
  pub sums_append : (sums : List (Option ℕ)) (cs ds : List Cell)
      → sums_after add mul x sums (cs ++ ds) ≡ sums_after add mul x (sums_after add mul x sums cs) ds
  sums_append sums [] ds = refl
  sums_append sums (c ∷ cs) ds = sums_append (set sums c.0 (after add mul x (slot sums c.0) (Some c.1))) cs ds

  pub calls_append : (sums : List (Option ℕ)) (cs ds : List Cell)
      → steps_of (calls_after add mul x sums (cs ++ ds))
      ≡ steps_of (calls_after add mul x sums cs) + steps_of (calls_after add mul x (sums_after add mul x sums cs) ds)
  calls_append sums [] ds = omega arith
  calls_append sums (c ∷ cs) ds =
      let next = set sums c.0 (after add mul x (slot sums c.0) (Some c.1)) in
      let here = extra add mul x (slot sums c.0) (Some c.1) in
      let r = calls_append next cs ds in
      let s = steps-append here (calls_after add mul x next (cs ++ ds)) in
      let p = steps-append here (calls_after add mul x next cs) in
      omega (arith, r, s, p)

-- a term is added to the sums of listed columns, one after another: those that are left complete the whole
pub record IsAdding (add mul : Accepted) (x w : ℕ) (first : List (Option ℕ)) (js : List ℕ) (n : ℕ) (sums : List (Option ℕ))
    (steps : ℕ) : Type 0 where
  pub made : sums_after add mul x sums (cells_with w (drop n js)) ≡ sums_after add mul x first (cells_with w js)
  pub counted : steps + steps_of (calls_after add mul x sums (cells_with w (drop n js)))
      ≡ steps_of (calls_after add mul x first (cells_with w js))
  pub few : steps ≤ 8192 * n
  pub long : length sums ≡ length first

pub is_adding_starts : (add mul : Accepted) (x w : ℕ) (first : List (Option ℕ)) (js : List ℕ) → IsAdding add mul x w first js 0 first 0
is_adding_starts add mul x w first js = record { made = refl; counted = omega arith; few = omega arith; long = refl }

pub is_adding_more : (f : MaskedFactors) (t : Term) (first : List (Option ℕ)) (js : List ℕ) (n : ℕ) (sums next : List (Option ℕ))
    (steps here : ℕ) → AreMasked f → IsTerm f.mul.now t → n < length js
    → IsAdding f.add.now f.mul.now t.x t.word first js n sums steps
    → next ≡ set sums (get_or js n 0) (Some (added f.add.now (slot sums (get_or js n 0)) t.value))
    → here ≡ steps_of (added_calls f.add.now (slot sums (get_or js n 0)) t.value)
    → IsAdding f.add.now f.mul.now t.x t.word first js (n + 1) next (steps + (t.steps + here))
is_adding_more f t first js n sums next steps here h e l m p c =
    let add = f.add.now in let mul = f.mul.now in
    let x = t.x in let w = t.word in
    let j = get_or js n 0 in
    let rest = cells_with w (drop (n + 1) js) in
    let split = ap (cells_with w) (drop_more js n 0 l) in
    let put : next ≡ set sums j (after add mul x (slot sums j) (Some w)) =
    p ∙ ap (λ v. set sums j (Some (added add (slot sums j) v))) e.value in
    let cost = e.steps in
    let calls = c ∙ ap (λ v. steps_of (added_calls add (slot sums j) v)) e.value in
    let all = ap (λ cs. steps_of (calls_after add mul x sums cs)) split in
    let s = steps-append (extra add mul x (slot sums j) (Some w))
    (calls_after add mul x (set sums j (after add mul x (slot sums j) (Some w))) rest) in
    let left = ap (λ us. steps_of (calls_after add mul x us rest)) put in
    let total = m.counted in
    let little = extra_few add mul x w (slot sums j) h.add_accepted h.mul_accepted h.add h.mul in
    let few = m.few in
    let long = m.long in
    let put_long = ap length put in
    let set_long = length-set sums j (after add mul x (slot sums j) (Some w)) in
    record {
      made = ap (λ us. sums_after add mul x us rest) put ∙ (ap (λ cs. sums_after add mul x sums cs) (sym split) ∙ m.made);
      counted = omega (arith, cost, calls, all, s, left, total);
      few = omega (arith, few, little, cost, calls);
      long = omega (arith, long, put_long, set_long);
    }

pub is_adding_ends : (f : MaskedFactors) (t : Term) (first : List (Option ℕ)) (js : List ℕ) (n : ℕ) (sums : List (Option ℕ))
    (steps : ℕ) → IsAdding f.add.now f.mul.now t.x t.word first js n sums steps → drop n js ≡ [] → n ≤ length js
    → AddsCells f t.x (cells_with t.word js) first sums steps
is_adding_ends f t first js n sums steps m e l =
    let add = f.add.now in let mul = f.mul.now in
    let k = m.counted in
    let z = ap (λ ks. steps_of (calls_after add mul t.x sums (cells_with t.word ks))) e in
    let few = m.few in
    let long = length_listed t.word js in
    record {
      sums = sym (ap (λ ks. sums_after add mul t.x sums (cells_with t.word ks)) e) ∙ m.made;
      steps = omega (arith, k, z);
      little = omega (arith, few, l, long);
    }

pub column_at : (w low high : ℕ) (js : List ℕ) (k : ℕ) → Ascends low high (cells_with w js) → k < length js → get_or js k 0 < high
column_at w low high [] k h l = absurd (omega (arith, l))
column_at w low high (j ∷ js) zero h l = h.1
column_at w low high (j ∷ js) (suc k) h l = column_at w (suc j) high js k h.2 (omega (arith, l))

-- ---- columns in parts

pub below_listed : (w low high wide : ℕ) (js : List ℕ) → high ≤ wide → Ascends low high (cells_with w js) → AreBelow wide js
below_listed w low high wide [] l h = tt
below_listed w low high wide (j ∷ js) l h = (let b = h.1 in omega (arith, b, l), below_listed w (suc j) high wide js l h.2)

ascends_last : (low high : ℕ) (cs ds : List Cell) → Ascends low high (cs ++ ds) → Ascends low high ds
ascends_last low high [] ds h = h
ascends_last low high (c ∷ cs) ds h =
    let r = ascends_last (suc c.0) high cs ds h.2 in ascends-weaken low (suc c.0) high ds (let b = h.0 in omega (arith, b)) r

pub few_listed : (f : MaskedFactors) (w : ℕ) (js : List ℕ) → AreMasked f → Ascends 0 f.b.now.columns (cells_with w js) → length js ≤ limit
few_listed f w js h a =
    let l = length_ascends 0 f.b.now.columns (cells_with w js) (omega arith) a in
    let n = length_listed w js in
    let c = h.b_grid.columns_small in
    omega (arith, l, n, c)

-- those that take part are added part by part: those that are left complete the whole
pub record IsPassing (f : MaskedFactors) (x w : ℕ) (t : ℕ → Bool) (first : List (Option ℕ)) (js rest : List ℕ)
    (sums : List (Option ℕ)) (steps : ℕ) : Type 0 where
  pub ascends : Ascends 0 f.b.now.columns (cells_with w rest)
  pub made : sums_after f.add.now f.mul.now x sums (taking t (cells_with w rest))
      ≡ sums_after f.add.now f.mul.now x first (taking t (cells_with w js))
  pub counted : steps + steps_of (calls_after f.add.now f.mul.now x sums (taking t (cells_with w rest)))
      ≡ steps_of (calls_after f.add.now f.mul.now x first (taking t (cells_with w js)))
  pub few : steps + 8192 * length rest ≤ 8192 * length js

pub is_passing_starts : (f : MaskedFactors) (x w : ℕ) (t : ℕ → Bool) (first : List (Option ℕ)) (js : List ℕ)
    → Ascends 0 f.b.now.columns (cells_with w js) → IsPassing f x w t first js js first 0
is_passing_starts f x w t first js a = record { ascends = a; made = refl; counted = omega arith; few = omega arith }

pub ascends_now : (f : MaskedFactors) (w : ℕ) (rest now behind : List ℕ) (wide : ℕ) → f.b.now.columns ≤ wide → rest ≡ now ++ behind
    → Ascends 0 f.b.now.columns (cells_with w rest) → Ascends 0 wide (cells_with w now)
ascends_now f w rest now behind wide l e a =
    ascends_first 0 f.b.now.columns wide (cells_with w now) (cells_with w behind) l
    (subst (λ (cs : List Cell). Ascends 0 f.b.now.columns cs) (ap (cells_with w) e ∙ listed_append w now behind) a)

pub is_passing_more : (f : MaskedFactors) (x w : ℕ) (t : ℕ → Bool) (first : List (Option ℕ)) (js rest now behind : List ℕ)
    (sums next : List (Option ℕ)) (steps here : ℕ) → rest ≡ now ++ behind → IsPassing f x w t first js rest sums steps
    → AddsCells f x (taking t (cells_with w now)) sums next here → IsPassing f x w t first js behind next (steps + here)
is_passing_more f x w t first js rest now behind sums next steps here e m a =
    let add = f.add.now in let mul = f.mul.now in
    let front = taking t (cells_with w now) in
    let back = taking t (cells_with w behind) in
    let whole = ap (cells_with w) e ∙ listed_append w now behind in
    let both = ap (taking t) whole ∙ taking_append t (cells_with w now) (cells_with w behind) in
    let total = m.counted in
    let calls = ap (λ cs. steps_of (calls_after add mul x sums cs)) both in
    let parts = calls_append add mul x sums front back in
    let made = a.sums in
    let left = ap (λ us. steps_of (calls_after add mul x us back)) made in
    let cost = a.steps in
    let few = m.few in
    let little = a.little in
    let taken = taking_few t (cells_with w now) in
    let n = length_listed w now in
    let l = ap length e ∙ length-append now behind in
    record {
      ascends = ascends_last 0 f.b.now.columns (cells_with w now) (cells_with w behind)
          (subst (λ (cs : List Cell). Ascends 0 f.b.now.columns cs) whole m.ascends);
      made = ap (λ us. sums_after add mul x us back) made ∙ (sym (sums_append add mul x sums front back)
          ∙ (ap (λ cs. sums_after add mul x sums cs) (sym both) ∙ m.made));
      counted = omega (arith, total, calls, parts, left, cost);
      few = omega (arith, few, little, taken, n, l);
    }

pub is_passing_ends : (f : MaskedFactors) (x w : ℕ) (t : ℕ → Bool) (first : List (Option ℕ)) (js rest : List ℕ)
    (sums : List (Option ℕ)) (steps : ℕ) → AreMasked f → IsPassing f x w t first js rest sums steps → rest ≡ []
    → AddsCells f x (taking t (cells_with w js)) first sums steps
is_passing_ends f x w t first js rest sums steps h m e =
    let add = f.add.now in let mul = f.mul.now in
    let cs = taking t (cells_with w js) in
    let total = m.counted in
    let z = ap (λ ks. steps_of (calls_after add mul x sums (taking t (cells_with w ks)))) e in
    let few = after_few add mul x first cs h.add_accepted h.mul_accepted h.add h.mul in
    record {
      sums = sym (ap (λ ks. sums_after add mul x sums (taking t (cells_with w ks))) e) ∙ m.made;
      steps = omega (arith, total, z);
      little = omega (arith, total, z, few);
    }

-- ---- a row of B

pub adds_row : (f : MaskedFactors) (x k : ℕ) (t : ℕ → Bool) (first new : List (Option ℕ)) (s : ℕ) → AreMasked f
    → f.b.now.columns ≤ length first → AddsCells f x (taking t (row_of f.b.now k)) first new s → AddsRowOfB f x k t first new s
adds_row f x k t first new s h w a =
    let add = f.add.now in let mul = f.mul.now in
    let b = f.b.now in
    let n = b.columns in
    let row = row_of b k in
    let begun = subst (λ (us : List Cell). Adding add mul x n t first row first us 0) (sym (append-nil row))
    (adding_start add mul x n t first row (row_of-ascends b k h.b_grid)) in
    let made = adding_cells add mul x n t first row first row [] 0 begun w in
    let all = adding_end add mul x n t first b k row (sums_after add mul x first (taking t row)) [] _ made refl refl in
    let cost = a.steps in
    let total = all.1 in
    let little = a.little in
    let taken = taking_few t row in
    let few = row_few b k h.b_grid in
    record {
      sums = λ j. ap (λ us. slot us j) a.sums ∙ all.0 j;
      steps = omega (arith, cost, total);
      little = omega (arith, little, taken, few);
    }

-- by its columns
pub adds_listed : (f : MaskedFactors) (w x k : ℕ) (t : ℕ → Bool) (term : Term) (js : List ℕ) (first new : List (Option ℕ)) (s : ℕ)
    → AreMasked f → StandsOnRight f.mul.now f.b.now w → f.b.now.columns ≤ length first → js ≡ columns_of (row_of f.b.now k)
    → term.x ≡ x → term.word ≡ w → AddsCells f term.x (taking t (cells_with term.word js)) first new s → AddsRowOfB f x k t first new s
adds_listed f w x k t term js first new s h stands wide e ex ew a =
    let row = row_of f.b.now k in
    let mul = f.mul.now in
    let same = ap (λ v. taking t (cells_with v js)) ew ∙ (ap (λ (ks : List ℕ). taking t (cells_with w ks)) e ∙ taking_with t w row) in
    let here = subst (λ (cs : List Cell). AddsCells f term.x cs first new s) same a in
    let then_ = subst (λ y. AddsCells f y (cells_with w (columns_of (taking t row))) first new s) ex here in
    adds_row f x k t first new s h wide
    (adds_as f x (taking t row) (cells_with w (columns_of (taking t row))) first new s
    (right_as_with mul w (taking t row)
    (all_taking (λ (c : Cell). IsRightAs mul c.1 w) t row (row_on_right mul f.b.now k w stands))) then_)
