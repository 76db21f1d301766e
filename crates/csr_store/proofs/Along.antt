-- What is listed along positions: joined from its parts, and along the cells of rows that ascend.
use Rattle.std.proofs.Common.{◌≡◌, ◌≤◌, ◌<◌, ◌+◌, ◌-◌, ℕ, zero, suc, true, false, cond, List, [], ◌∷◌, ◌++◌, length, get_or, replicate, Option, None, Some, refl, sym, ap, ◌∙◌, append_assoc, append-nil, arith, nat_eq, eq-eqb, inl, inr}
use Rattle.std.proofs.lemmas.Bool.{ne_eqb}
use Rattle.std.proofs.lemmas.Bool.Decides.{eqb_tells, nat_tests}
use Rattle.std.specs.Ordering.{nat_cmp, is_lt}
use Rattle.std.specs.FinMap.{is_sorted, get}
use Rattle.std.specs.FinMap.Entries.{below_all}
use Rattle.csr_store.specs.Grid.{Grid, IsGrid, Cell, row_of}
use Rattle.csr_store.specs.Run.{Row, Run}
use Rattle.csr_store.specs.Along.{along, cell_at, row_by}
pub use Rattle.csr_store.specs.Ascending.{Ascends, at}
use Rattle.csr_store.proofs.Order.{both_true}
use Rattle.csr_store.proofs.ByRow.{lookup-row_of, row_ascends, cell_inside}

-- ---- joining and splitting

module _ {T : Type 0} where
  pub along-same : (g h : ℕ → List T) (from n : ℕ) → ((j : ℕ) → from ≤ j → j < from + n → g j ≡ h j)
      → along g from n ≡ along h from n
  along-same g h from zero e = refl
  along-same g h from (suc n) e =
      ap (λ xs. xs ++ along g (suc from) n) (e from (omega arith) (omega arith))
      ∙ ap (λ xs. h from ++ xs) (along-same g h (suc from) n (λ j l u. e j (omega arith) (omega arith)))

  pub along-split : (g : ℕ → List T) (from m n : ℕ) → along g from (m + n) ≡ along g from m ++ along g (from + m) n
  along-split g from zero n = ap (λ k. along g from k) (omega arith) ∙ ap (λ k. along g k n) (omega arith)
  along-split g from (suc m) n =
      let e : suc m + n ≡ suc (m + n) = omega arith in
      let f : suc from + m ≡ from + suc m = omega arith in
      ap (λ k. along g from k) e
      ∙ (ap (λ xs. g from ++ xs) (along-split g (suc from) m n ∙ ap (λ k. along g (suc from) m ++ along g k n) f)
      ∙ sym (append_assoc (g from) (along g (suc from) m) (along g (from + suc m) n)))

  pub along-one : (g : ℕ → List T) (from : ℕ) → along g from 1 ≡ g from
  along-one g from = append-nil (g from)

  pub along-snoc : (g : ℕ → List T) (from n : ℕ) → along g from (n + 1) ≡ along g from n ++ g (from + n)
  along-snoc g from n = along-split g from n 1 ∙ ap (λ xs. along g from n ++ xs) (append-nil (g (from + n)))

  -- the first of a range that isn't over
  pub along-next : (g : ℕ → List T) (i to : ℕ) → i < to → along g i (to - i) ≡ g i ++ along g (i + 1) (to - (i + 1))
  along-next g i to h =
      let e : to - i ≡ suc (to - (i + 1)) = omega arith in
      let s : suc i ≡ i + 1 = omega arith in
      ap (along g i) e ∙ ap (λ k. g i ++ along g k (to - (i + 1))) s

  pub along-over : (g : ℕ → List T) (i to : ℕ) → to ≤ i → along g i (to - i) ≡ []
  along-over g i to h = let z : to - i ≡ 0 = omega arith in ap (along g i) z

  -- nothing anywhere
  pub along-none : (g : ℕ → List T) (from n : ℕ) → ((j : ℕ) → g j ≡ []) → along g from n ≡ []
  along-none g from zero e = refl
  along-none g from (suc n) e = ap (λ xs. xs ++ along g (suc from) n) (e from) ∙ along-none g (suc from) n e

  -- one thing at each
  pub along-replicate : (x : T) (from n : ℕ) → replicate n x ≡ along (λ i. x ∷ []) from n
  along-replicate x from zero = refl
  along-replicate x from (suc n) = ap (λ xs. x ∷ xs) (along-replicate x (suc from) n)

  -- the first position that has something comes first
  pub along-first : (g h : ℕ → List T) (from n c : ℕ) → from ≤ c → c < from + n → ((j : ℕ) → j < c → g j ≡ []) → ((j : ℕ)
      → j ≤ c → h j ≡ [])
      → ((j : ℕ) → c < j → g j ≡ h j) → along g from n ≡ g c ++ along h from n
  along-first g h from zero c l u a b e = absurd (omega arith)
  along-first g h from (suc n) c l u a b e = elim (eqb_tells from c) [
    | inl p ↦ here p.1
    | inr p ↦ later (along-first g h (suc from) n c) p.1
  ]
    where
      here : from ≡ c → along g from (suc n) ≡ g c ++ along h from (suc n)
      here q = ap (λ k. g k ++ along g (suc from) n) q
          ∙ ap (λ xs. g c ++ xs) (along-same g h (suc from) n (λ j m v. e j (omega arith))
          ∙ ap (λ xs. xs ++ along h (suc from) n) (sym (b from l)))

      later : (suc from ≤ c → c < suc from + n → ((j : ℕ) → j < c → g j ≡ []) → ((j : ℕ) → j ≤ c → h j ≡ []) → ((j : ℕ)
          → c < j → g j ≡ h j)
          → along g (suc from) n ≡ g c ++ along h (suc from) n) → (from ≡ c → ⊥) → along g from (suc n) ≡ g c ++ along h from (suc n)
      later rest q = ap (λ xs. xs ++ along g (suc from) n) (a from (omega arith))
          ∙ (rest (omega arith) (omega arith) a b e
          ∙ ap (λ xs. g c ++ (xs ++ along h (suc from) n)) (sym (b from l)))

-- ---- cells whose columns ascend

pub ascends-weaken : (low mid high : ℕ) (cs : List Cell) → low ≤ mid → Ascends mid high cs → Ascends low high cs
ascends-weaken low mid high [] l h = tt
ascends-weaken low mid high (c ∷ cs) l h = (let b = h.0 in omega arith, h.1, h.2)

-- what cells have below, at and above the first column
pub at-below : (low high : ℕ) (cs : List Cell) (j : ℕ) → Ascends low high cs → j < low → at cs j ≡ None
at-below low high [] j h l = refl
at-below low high (c ∷ cs) j h l =
    let ne : nat_eq j c.0 ≡ false = ne_eqb j c.0 (λ q. let b = h.0 in omega arith) in
    ap (λ b. cond b (Some c.1) (at cs j)) ne ∙ at-below (suc c.0) high cs j h.2 (let b = h.0 in omega arith)

pub at-first : (c : Cell) (cs : List Cell) → at (c ∷ cs) c.0 ≡ Some c.1
at-first c cs = ap (λ b. cond b (Some c.1) (at cs c.0)) (eq-eqb c.0 c.0 refl)

pub at-after : (c : Cell) (cs : List Cell) (j : ℕ) → c.0 < j → at (c ∷ cs) j ≡ at cs j
at-after c cs j h = ap (λ b. cond b (Some c.1) (at cs j)) (ne_eqb j c.0 (λ q. omega arith))

pub length_ascends : (low high : ℕ) (cs : List Cell) → low ≤ high → Ascends low high cs → low + length cs ≤ high
length_ascends low high [] l h = omega arith
length_ascends low high (c ∷ cs) l h =
    let b = h.0 in let t = h.1 in let r = length_ascends (suc c.0) high cs (omega arith) h.2 in omega arith

-- ---- what is listed along positions is listed along the cells

abbrev pub each : {T : Type 0} → (ℕ → Option ℕ → List T) → List Cell → List T
each g [] = []
each g (c ∷ cs) = g c.0 (Some c.1) ++ each g cs

module _ {T : Type 0} where
  each-go : (g : ℕ → Option ℕ → List T) → ((k : ℕ) → g k None ≡ []) → (n low : ℕ) (cs : List Cell) → Ascends low n cs
      → along (λ k. g k (at cs k)) 0 n ≡ each g cs
  each-go g blank n low [] h = along-none (λ k. g k None) 0 n blank
  each-go g blank n low (c ∷ cs) h =
      let rest = h.2 in
      along-first (λ k. g k (at (c ∷ cs) k)) (λ k. g k (at cs k)) 0 n c.0 (omega arith) (let b = h.1 in omega arith)
      (λ j l. ap (g j) (at-below c.0 n (c ∷ cs) j (omega arith, h.1, h.2) l) ∙ blank j)
      (λ j l. ap (g j) (at-below (suc c.0) n cs j rest (omega arith)) ∙ blank j)
      (λ j l. ap (g j) (at-after c cs j l))
      ∙ (ap (λ o. g c.0 o ++ along (λ k. g k (at cs k)) 0 n) (at-first c cs)
      ∙ ap (λ xs. g c.0 (Some c.1) ++ xs) (each-go g blank n (suc c.0) cs rest))

  pub along-each : (g : ℕ → Option ℕ → List T) → ((k : ℕ) → g k None ≡ []) → (n low : ℕ) (cs : List Cell) → Ascends low n cs
      → along (λ k. g k (at cs k)) 0 n ≡ each g cs
  along-each g blank n low cs h = each-go g blank n low cs h

each-cells : (cs : List Cell) → each cell_at cs ≡ cs
each-cells [] = refl
each-cells (c ∷ cs) = ap (λ ds. c ∷ ds) (each-cells cs)

-- cells are the row by their columns
pub row_by-at : (n low : ℕ) (cs : List Cell) → Ascends low n cs → row_by n (at cs) ≡ cs
row_by-at n low cs h = along-each cell_at (λ k. refl) n low cs h ∙ each-cells cs

-- a row by columns ascends
pub row_by-ascends : (at : ℕ → Option ℕ) (from n high : ℕ) → from + n ≤ high
    → Ascends from high (along (λ j. cell_at j (at j)) from n)
row_by-ascends at from zero high l = tt
row_by-ascends at from (suc n) high l = here (at from) (row_by-ascends at (suc from) n high (omega arith))
  where
    here : (o : Option ℕ) → Ascends (suc from) high (along (λ j. cell_at j (at j)) (suc from) n)
        → Ascends from high (cell_at from o ++ along (λ j. cell_at j (at j)) (suc from) n)
    here None h = ascends-weaken from (suc from) high _ (omega arith) h
    here (Some v) h = (omega arith, omega arith, h)

-- ---- the rows of a matrix

less : (a b : ℕ) → is_lt (nat_cmp a b) ≡ true → a < b
less a b h = grind (arith, nat_tests)

ascends-from : (x high : ℕ) (cs : List Cell) → below_all nat_cmp x cs ≡ true → is_sorted nat_cmp cs ≡ true
    → ((k : ℕ) (d : Cell) → k < length cs → (get_or cs k d).0 < high) → Ascends (suc x) high cs
ascends-from x high [] b s w = tt
ascends-from x high (c ∷ cs) b s w =
    let t = both_true (is_lt (nat_cmp x c.0)) (below_all nat_cmp x cs) b in
    let u = both_true (below_all nat_cmp c.0 cs) (is_sorted nat_cmp cs) s in
    (less x c.0 t.0, w 0 c (omega arith), ascends-from c.0 high cs u.0 u.1 (λ k d l. w (suc k) d (omega arith)))

-- columns that are sorted, and each within, ascend
pub ascends-sorted : (high : ℕ) (cs : List Cell) → is_sorted nat_cmp cs ≡ true → ((k : ℕ) (d : Cell) → k < length cs
    → (get_or cs k d).0 < high) → Ascends 0 high cs
ascends-sorted high [] s w = tt
ascends-sorted high (c ∷ cs) s w =
    let u = both_true (below_all nat_cmp c.0 cs) (is_sorted nat_cmp cs) s in
    (omega arith, w 0 c (omega arith), ascends-from c.0 high cs u.0 u.1 (λ k d l. w (suc k) d (omega arith)))

-- the rows of a matrix ascend
pub row_of-ascends : (g : Grid) (i : ℕ) → IsGrid g → Ascends 0 g.columns (row_of g i)
row_of-ascends g i h = ascends-sorted g.columns (row_of g i) (row_ascends g i) (λ k d l. (cell_inside g i k d h l).1)

-- a row of a matrix is the row by what the matrix has at its positions
pub row_by-row_of : (g : Grid) (i : ℕ) → IsGrid g → row_by g.columns (λ j. get g.cells (i, j)) ≡ row_of g i
row_by-row_of g i h =
    along-same (λ j. cell_at j (get g.cells (
      i,
      j,
    ))) (λ j. cell_at j (at (row_of g i) j)) 0 g.columns (λ j l u. ap (cell_at j) (sym (lookup-row_of g i j)))
    ∙ row_by-at g.columns 0 (row_of g i) (row_of-ascends g i h)

-- what is listed for the positions of a row is listed for its cells
pub along-row_of : {T : Type 0} (f : ℕ → Option ℕ → List T) → ((k : ℕ) → f k None ≡ []) → (g : Grid) (i : ℕ) → IsGrid g
    → along (λ j. f j (get g.cells (i, j))) 0 g.columns ≡ each f (row_of g i)
along-row_of f blank g i h =
    along-same (λ j. f j (get g.cells (i, j))) (λ j. f j (at (row_of g i) j)) 0 g.columns (λ j l u. ap (f j) (sym (lookup-row_of
    g i j)))
    ∙ along-each f blank g.columns 0 (row_of g i) (row_of-ascends g i h)

pub length-row_of : (g : Grid) (i : ℕ) → IsGrid g → length (row_of g i) ≤ g.columns
length-row_of g i h = let l = length_ascends 0 g.columns (row_of g i) (omega arith) (row_of-ascends g i h) in omega arith

-- ---- a run of rows, filled row by row: what is still to come completes it

pub record Fills (row : ℕ → Row) (from to : ℕ) (start : Run) (i : ℕ) (now : Run) : Type 0 where
  pub run : now ≡ record start { ended = now.ended }
  pub closed : now.opened ≡ []
  pub listed : now.ended ++ along (λ k. row k ∷ []) i (to - i) ≡ start.ended ++ along (λ k. row k ∷ []) from (to - from)

pub fills-start : (row : ℕ → Row) (from to : ℕ) (start : Run) → start.opened ≡ [] → Fills row from to start from start
fills-start row from to start c = record { run = refl; closed = c; listed = refl }

pub fills-step : (row : ℕ → Row) (from to : ℕ) (start : Run) (i : ℕ) (now then : Run) → Fills row from to start i now → i < to
    → then ≡ record now { ended = now.ended ++ row i ∷ []; opened = [] } → Fills row from to start (i + 1) then
fills-step row from to start i now then m h t =
    let o : then.ended ≡ now.ended ++ row i ∷ [] = ap (λ (u : Run). u.ended) t in
    let was : [] ≡ start.opened = sym m.closed ∙ ap (λ (u : Run). u.opened) m.run in
    record {
      run = t ∙ (ap (λ (u : Run). record u { ended = now.ended ++ row i ∷ []; opened = [] }) m.run
          ∙ (ap (λ os. record start { ended = now.ended ++ row i ∷ []; opened = os }) was
          ∙ ap (λ es. record start { ended = es }) (sym o)));
      closed = ap (λ (u : Run). u.opened) t;
      listed = ap (λ es. es ++ along (λ k. row k ∷ []) (i + 1) (to - (i + 1))) o
          ∙ (append_assoc now.ended (row i ∷ []) (along (λ k. row k ∷ []) (i + 1) (to - (i + 1)))
          ∙ (ap (λ es. now.ended ++ es) (sym (along-next (λ k. row k ∷ []) i to h)) ∙ m.listed));
    }

pub fills-end : (row : ℕ → Row) (from to : ℕ) (start : Run) (i : ℕ) (now : Run) → Fills row from to start i now → to ≤ i
    → now ≡ record start { ended = start.ended ++ along (λ k. row k ∷ []) from (to - from) }
fills-end row from to start i now m h =
    m.run ∙ ap (λ es. record start { ended = es })
    (sym (append-nil now.ended) ∙ (ap (λ rs. now.ended ++ rs) (sym (along-over (λ k. row k ∷ []) i to h)) ∙ m.listed))

-- a row was added to the open row, which then ended
pub row_ended : (now mid then : Run) (cs r : Row) → now.opened ≡ [] → mid ≡ record now { opened = now.opened ++ cs } → cs ≡ r
    → then ≡ record mid { ended = mid.ended ++ mid.opened ∷ []; opened = [] }
    → then ≡ record now { ended = now.ended ++ r ∷ []; opened = [] }
row_ended now mid then cs r o m e t =
    t ∙ (ap (λ (u : Run). record u { ended = u.ended ++ u.opened ∷ []; opened = [] }) m
    ∙ (ap (λ os. record now { ended = now.ended ++ (os ++ cs) ∷ []; opened = [] }) o
    ∙ ap (λ os. record now { ended = now.ended ++ os ∷ []; opened = [] }) e))
