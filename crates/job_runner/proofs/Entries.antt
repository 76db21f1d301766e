-- How many entries the rows of a job have: no more than a matrix holds.
use Rattle.std.proofs.Common.{◌≡◌, ◌<◌, ◌≤◌, ℕ, zero, suc, ◌+◌, true, false, not, cond, nat_eq, Bool, List, [], ◌∷◌, length, Option, Some, None, refl, sym, ap, ◌∙◌, arith, length-append}
use Rattle.std.proofs.lemmas.List.{length-map}
use Rattle.std.proofs.lemmas.Bool.{eqb-true}
use Rattle.std.specs.Option.{is_some}
use Rattle.std.specs.Map.{lookup}
use Rattle.std.specs.FinMap as fin
use Rattle.csr_store.specs.Grid.{Grid, IsGrid, Position, Cell, row_of, row_start, at_row}
use Rattle.csr_store.specs.Along.{along, cell_at, row_by, summed}
use Rattle.csr_store.specs.Run.{Row, numbered}
use Rattle.csr_store.specs.Mask.{cut, passes, row_passes, row_under, rows_under}
use Rattle.csr_store.proofs.Along.{row_by-row_of}
use Rattle.csr_store.proofs.ByRow.{row_start-zero, row_start-next, row_start-within, lookup-row_of}
use Rattle.bpf_verify.specs.Accepted.{Accepted}
use Rattle.bpf_run.specs.Fold.{fold}
use Rattle.job_forms.specs.Forms as entry
use Rattle.job_forms.specs.Product as by_row

-- ---- how much is listed

module _ {T : Type 0} where
  pub length-along : (g : ℕ → List T) (from n : ℕ) → length (along g from n) ≡ summed (λ k. length (g k)) from n
  length-along g from zero = refl
  length-along g from (suc n) =
      let h = length-along g (suc from) n in let a = length-append (g from) (along g (suc from) n) in omega arith

pub summed-le : (p q : ℕ → ℕ) (from n : ℕ) → ((k : ℕ) → from ≤ k → k < from + n → p k ≤ q k) → summed p from n ≤ summed q from n
summed-le p q from zero h = omega arith
summed-le p q from (suc n) h =
    let a = h from (omega arith) (omega arith) in
    let b = summed-le p q (suc from) n (λ k l u. h k (omega arith) (omega arith)) in
    omega (arith, a, b)

pub summed-add : (p q : ℕ → ℕ) (from n : ℕ) → summed (λ k. p k + q k) from n ≡ summed p from n + summed q from n
summed-add p q from zero = omega arith
summed-add p q from (suc n) = let h = summed-add p q (suc from) n in omega arith

pub summed-zero : (from n : ℕ) → summed (λ k. 0) from n ≡ 0
summed-zero from zero = refl
summed-zero from (suc n) = let h = summed-zero (suc from) n in omega arith

pub summed-ones : (from n : ℕ) → summed (λ k. 1) from n ≡ n
summed-ones from zero = refl
summed-ones from (suc n) = let h = summed-ones (suc from) n in omega arith

-- the entries of rows
pub length-numbered : (i : ℕ) (g : ℕ → Row) (from n : ℕ)
    → length (numbered i (along (λ k. g k ∷ []) from n)) ≡ summed (λ k. length (g k)) from n
length-numbered i g from zero = refl
length-numbered i g from (suc n) =
    let h = length-numbered (i + 1) g (suc from) n in
    let a = length-append (at_row i (g from)) (numbered (i + 1) (along (λ k. g k ∷ []) (suc from) n)) in
    let m : length (at_row i (g from)) ≡ length (g from) = length-map (g from) (λ (c : Cell). ((i, c.0), c.1)) in
    omega (arith, h, a, m)

-- ---- rows position by position

abbrev count_of : Option ℕ → ℕ
count_of None = 0
count_of (Some x) = 1

cell-count : (j : ℕ) (o : Option ℕ) → length (cell_at j o) ≡ count_of o
cell-count j None = refl
cell-count j (Some x) = refl

-- how many entries a row has
pub row_by-count : (columns : ℕ) (at : ℕ → Option ℕ)
    → length (row_by columns at) ≡ summed (λ j. length (cell_at j (at j))) 0 columns
row_by-count columns at = length-along (λ j. cell_at j (at j)) 0 columns

-- a row that has something only where p counts
pub row-le : (columns : ℕ) (at : ℕ → Option ℕ) (p : ℕ → ℕ) → ((j : ℕ) → count_of (at j) ≤ p j)
    → length (row_by columns at) ≤ summed p 0 columns
row-le columns at p h =
    let a = row_by-count columns at in
    let b = summed-le (λ j. length (cell_at j (at j))) p 0 columns (λ j l u. let e = cell-count j (at j) in let k = h j in
    omega (arith, e, k)) in
    omega (arith, a, b)

-- a grid's row, counted position by position
pub row_of-count : (g : Grid) (i : ℕ) → IsGrid g → summed (λ j. count_of (fin.get g.cells (i, j))) 0 g.columns ≡ length (row_of g i)
row_of-count g i h =
    let same = ap length (row_by-row_of g i h) in
    let a = row_by-count g.columns (λ j. fin.get g.cells (i, j)) in
    let l = summed-le (λ j. count_of (fin.get g.cells (i, j))) (λ j. length (cell_at j (fin.get g.cells (i, j)))) 0 g.columns
    (λ j l u. let e = cell-count j (fin.get g.cells (i, j)) in omega (arith, e)) in
    let r = summed-le (λ j. length (cell_at j (fin.get g.cells (i, j)))) (λ j. count_of (fin.get g.cells (i, j))) 0 g.columns
    (λ j l u. let e = cell-count j (fin.get g.cells (i, j)) in omega (arith, e)) in
    omega (arith, same, a, l, r)

-- the rows of a grid have its entries
rows-start : (g : Grid) (from n : ℕ) → row_start g from + summed (λ i. length (row_of g i)) from n ≡ row_start g (from + n)
rows-start g from zero = let e : from + 0 ≡ from = omega arith in let a = ap (row_start g) e in omega (arith, a)
rows-start g from (suc n) =
    let s = row_start-next g from in
    let e : from + 1 ≡ suc from = omega arith in
    let f : suc from + n ≡ from + suc n = omega arith in
    let a = ap (row_start g) e in
    let b = ap (row_start g) f in
    let r = rows-start g (suc from) n in
    omega (arith, s, a, b, r)

pub rows-entries : (g : Grid) (n : ℕ) → IsGrid g → summed (λ i. length (row_of g i)) 0 n ≤ fin.len g.cells
rows-entries g n h =
    let r = rows-start g 0 n in
    let z = row_start-zero g in
    let e : 0 + n ≡ n = omega arith in
    let a = ap (row_start g) e in
    let w = row_start-within g n in
    let l = fin.len-entries g.cells in
    omega (arith, r, z, a, w, l)

-- ---- rows under a mask

cut_count : (mask : Option Grid) (v : Position → Option ℕ) (at : Position) → count_of (cut mask v at) ≤ count_of (v at)
cut_count mask v at =
    elim (passes mask at) as (λ t. count_of (cond t (v at) None) ≤ count_of (v at)) [ true ↦ omega arith | false ↦ omega arith ]

-- where the rows have no more entries than p says
rows_within : (mask : Option Grid) (columns rows : ℕ) (v : Position → Option ℕ) (p : ℕ → ℕ)
    → ((i : ℕ) → length (row_under mask columns v i) ≤ p i)
    → length (numbered 0 (rows_under mask columns v 0 rows)) ≤ summed p 0 rows
rows_within mask columns rows v p h =
    let a = length-numbered 0 (row_under mask columns v) 0 rows in
    let b = summed-le (λ i. length (row_under mask columns v i)) p 0 rows (λ i l u. h i) in
    omega (arith, a, b)

-- something stands only where a matrix has something
pub within_one : (g : Grid) (mask : Option Grid) (v : Position → Option ℕ) (rows : ℕ) → IsGrid g
    → ((at : Position) → count_of (v at) ≤ count_of (fin.get g.cells at))
    → length (numbered 0 (rows_under mask g.columns v 0 rows)) ≤ fin.len g.cells
within_one g mask v rows h w =
    let each : (i : ℕ) → length (row_under mask g.columns v i) ≤ length (row_of g i) = λ i.
    let r = row-le g.columns (λ j. cut mask v (i, j)) (λ j. count_of (fin.get g.cells (i, j)))
    (λ j. let c = cut_count mask v (i, j) in let u = w (i, j) in omega (arith, c, u)) in
    let s = row_of-count g i h in omega (arith, r, s) in
    let a = rows_within mask g.columns rows v (λ i. length (row_of g i)) each in
    let b = rows-entries g rows h in
    omega (arith, a, b)

-- something stands only where one of two matrices has something
pub within_two : (a b : Grid) (mask : Option Grid) (v : Position → Option ℕ) (rows : ℕ) → IsGrid a → IsGrid b
    → a.columns ≡ b.columns
    → ((at : Position) → count_of (v at) ≤ count_of (fin.get a.cells at) + count_of (fin.get b.cells at))
    → length (numbered 0 (rows_under mask a.columns v 0 rows)) ≤ fin.len a.cells + fin.len b.cells
within_two a b mask v rows h k same w =
    let each : (i : ℕ) → length (row_under mask a.columns v i) ≤ length (row_of a i) + length (row_of b i) = λ i.
    let r = row-le a.columns (λ j. cut mask v (i, j)) (λ j. count_of (fin.get a.cells (i, j)) + count_of
    (fin.get b.cells (i, j)))
    (λ j. let c = cut_count mask v (i, j) in let u = w (i, j) in omega (arith, c, u)) in
    let s = summed-add (λ j. count_of (fin.get a.cells (i, j))) (λ j. count_of (fin.get b.cells (i, j))) 0 a.columns in
    let x = row_of-count a i h in
    let y = row_of-count b i k in
    let e = ap (summed (λ j. count_of (fin.get b.cells (i, j))) 0) same in
    omega (arith, r, s, x, y, e) in
    let t = rows_within mask a.columns rows v (λ i. length (row_of a i) + length (row_of b i)) each in
    let s = summed-add (λ i. length (row_of a i)) (λ i. length (row_of b i)) 0 rows in
    let x = rows-entries a rows h in
    let y = rows-entries b rows k in
    omega (arith, t, s, x, y)

one_count : (o : Option ℕ) → count_of o ≤ 1
one_count None = omega arith
one_count (Some x) = omega arith

-- one column
pub within_column : (mask : Option Grid) (v : Position → Option ℕ) (rows : ℕ)
    → length (numbered 0 (rows_under mask 1 v 0 rows)) ≤ rows
within_column mask v rows =
    let t = rows_within mask 1 rows v (λ i. 1) (λ i. let r = row-le 1 (λ j. cut mask v (i, j)) (λ j. 1)
    (λ j. one_count (cut mask v (i, j))) in
    let o = summed-ones 0 1 in omega (arith, r, o)) in
    let o = summed-ones 0 rows in
    omega (arith, t, o)

-- ---- products

empty_row : (g : Grid) (i j : ℕ) (cs : List Cell) → cs ≡ row_of g i → nat_eq (length cs) 0 ≡ true → fin.get g.cells (i, j) ≡ None
empty_row g i j [] e h = sym (lookup-row_of g i j) ∙ ap (lookup (nat_eq j)) (sym e)
empty_row g i j (c ∷ cs) e h = let z = eqb-true (length (c ∷ cs)) 0 h in absurd (omega (arith, z))

none_passes : (mask : Option Grid) (i : ℕ) → row_passes mask i ≡ false → (j : ℕ) → passes mask (i, j) ≡ false
none_passes None i h j = absurd (cc)
none_passes (Some mask) i h j =
    let e : nat_eq (length (row_of mask i)) 0 ≡ true = unnot (nat_eq (length (row_of mask i)) 0) h in
    ap is_some (empty_row mask i j (row_of mask i) refl e)
  where
    unnot : (b : Bool) → not b ≡ false → b ≡ true
    unnot true k = refl
    unnot false k = absurd (cc)

term_count : (mul : Accepted) (x : ℕ) (o : Option ℕ) → length (by_row.term mul x o) ≡ count_of o
term_count mul x None = refl
term_count mul x (Some y) = refl

-- the terms at all columns are as many as there are multiplications
terms-mults : (mul : Accepted) (b : Grid) (cs : List Cell) → IsGrid b
    → summed (λ j. length (by_row.terms mul b cs j)) 0 b.columns ≡ by_row.mults_of b cs
terms-mults mul b [] h = summed-zero 0 b.columns
terms-mults mul b (c ∷ cs) h =
    let r = terms-mults mul b cs h in
    let k = row_of-count b c.0 h in
    let s = summed-add (λ j. count_of (fin.get b.cells (c.0, j))) (λ j. length (by_row.terms mul b cs j)) 0 b.columns in
    let each : (j : ℕ) → length (by_row.terms mul b (c ∷ cs) j) ≡ count_of (fin.get b.cells (c.0, j)) + length
    (by_row.terms mul b cs j) = λ j.
    let a = length-append (by_row.term mul c.1 (fin.get b.cells (c.0, j))) (by_row.terms mul b cs j) in
    let t = term_count mul c.1 (fin.get b.cells (c.0, j)) in omega (arith, a, t) in
    let l = summed-le (λ j. length (by_row.terms mul b (c ∷ cs) j))
    (λ j. count_of (fin.get b.cells (c.0, j)) + length (by_row.terms mul b cs j)) 0 b.columns
    (λ j x y. let e = each j in omega (arith, e)) in
    let m = summed-le (λ j. count_of (fin.get b.cells (c.0, j)) + length (by_row.terms mul b cs j))
    (λ j. length (by_row.terms mul b (c ∷ cs) j)) 0 b.columns
    (λ j x y. let e = each j in omega (arith, e)) in
    omega (arith, r, k, s, l, m)

fold_count : (add : Accepted) (ts : List ℕ) → count_of (fold add ts) ≤ length ts
fold_count add [] = omega arith
fold_count add (t ∷ ts) = omega arith

product_row : (add mul : Accepted) (a b : Grid) (mask : Option Grid) (i : ℕ) (t : Bool) → IsGrid b → row_passes mask i ≡ t
    → length (row_under mask b.columns (by_row.product_at add mul a b) i) ≤ cond t (by_row.mults_of b (row_of a i)) 0
product_row add mul a b mask i true h e =
    let r = row-le b.columns (λ j. cut mask (by_row.product_at add mul a b) (i, j))
    (λ j. length (by_row.terms mul b (row_of a i) j))
    (λ j. let c = cut_count mask (by_row.product_at add mul a b) (i, j) in
    let f = fold_count add (by_row.terms mul b (row_of a i) j) in omega (arith, c, f)) in
    let m = terms-mults mul b (row_of a i) h in
    omega (arith, r, m)
product_row add mul a b mask i false h e =
    let r = row-le b.columns (λ j. cut mask (by_row.product_at add mul a b) (i, j)) (λ j. 0)
    (λ j. let n = ap (λ t. count_of (cond t (by_row.product_at add mul a b (i, j)) None)) (none_passes mask i e j) in
    omega (arith, n)) in
    let z = summed-zero 0 b.columns in
    omega (arith, r, z)

pub within_mults : (add mul : Accepted) (a b : Grid) (mask : Option Grid) (rows : ℕ) → IsGrid b
    → length (numbered 0 (rows_under mask b.columns (by_row.product_at add mul a b) 0 rows)) ≤ by_row.mults_under mask a b 0 rows
within_mults add mul a b mask rows h =
    rows_within mask b.columns rows (by_row.product_at add mul a b)
    (λ i. cond (row_passes mask i) (by_row.mults_of b (row_of a i)) 0)
    (λ i. product_row add mul a b mask i (row_passes mask i) h refl)

-- ---- what stands at a position

pub applied_count : (f : Accepted) (thunk : Option ℕ) (a : Grid) (at : Position)
    → count_of (entry.apply_at f thunk a at) ≤ count_of (fin.get a.cells at)
applied_count f thunk a at = go (fin.get a.cells at)
  where
    go : (o : Option ℕ) → count_of (entry.applied f thunk at o) ≤ count_of o
    go None = omega arith
    go (Some x) = omega arith

pub selected_count : (f : Accepted) (thunk : ℕ) (a : Grid) (at : Position)
    → count_of (entry.select_at f thunk a at) ≤ count_of (fin.get a.cells at)
selected_count f thunk a at = go (fin.get a.cells at)
  where
    go : (o : Option ℕ) → count_of (entry.selected f thunk at o) ≤ count_of o
    go None = omega arith
    go (Some x) = one_count (entry.selected f thunk at (Some x))

pub united_count : (f : Accepted) (a b : Grid) (at : Position)
    → count_of (entry.union_at f a b at) ≤ count_of (fin.get a.cells at) + count_of (fin.get b.cells at)
united_count f a b at = go (fin.get a.cells at) (fin.get b.cells at)
  where
    go : (p q : Option ℕ) → count_of (entry.united f p q) ≤ count_of p + count_of q
    go (Some x) (Some y) = omega arith
    go (Some x) None = omega arith
    go None q = omega arith

pub joint_count : (f : Accepted) (a b : Grid) (at : Position) → count_of (entry.both_at f a b at) ≤ count_of (fin.get a.cells at)
joint_count f a b at = go (fin.get a.cells at) (fin.get b.cells at)
  where
    go : (p q : Option ℕ) → count_of (entry.joint f p q) ≤ count_of p
    go (Some x) (Some y) = omega arith
    go (Some x) None = omega arith
    go None q = omega arith
