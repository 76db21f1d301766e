-- Rows by where they start: how many cells stand in rows that follow one another, rows without a cell, and rows that are full.
use Rattle.std.proofs.Common.{◌≡◌, ◌≤◌, ◌<◌, ℕ, zero, suc, ◌+◌, ◌-◌, ◌*◌, List, [], ◌∷◌, ◌++◌, map, length, slice_index_or, refl, sym, ap, ◌∙◌, inl, inr, arith, length-append}
use Rattle.std.proofs.Math.Nat.{suc-mul, add-mul}
use Rattle.std.proofs.lemmas.Bool.Decides.{eqb_tells}
use Rattle.std.proofs.lemmas.List.FromFn.{get_or-map-range_with_len, length-map-range_with_len}
use Rattle.std.specs.FinMap.{len, len-entries}
use Rattle.std.specs.List.{range_with_len}
use Rattle.csr_store.specs.Along.{along}
use Rattle.csr_store.specs.Grid.{Grid, Cell, IsGrid, row_of, row_start}
use Rattle.csr_store.proofs.Along.{length-row_of}
use Rattle.csr_store.proofs.ByRow.{row_start-zero, row_start-next, row_start-all}

-- ---- what stands in the list of starts

pub start_at : (g : Grid) (starts : List ℕ) (i : ℕ) → starts ≡ map (row_start g) (range_with_len 0 (g.rows + 1)) → i ≤ g.rows
    → slice_index_or starts i 0 ≡ row_start g i
start_at g starts i e h =
    ap (λ xs. slice_index_or xs i 0) e
    ∙ get_or-map-range_with_len (row_start g) 0 (g.rows + 1) i i 0 (omega (arith, h)) (omega arith)

pub start_inside : (g : Grid) (starts : List ℕ) (i : ℕ) → starts ≡ map (row_start g) (range_with_len 0 (g.rows + 1)) → i ≤ g.rows
    → i < length starts
start_inside g starts i e h =
    let l = ap length e in let n = length-map-range_with_len (row_start g) 0 (g.rows + 1) in omega (arith, l, n, h)

-- ---- rows that follow one another

pub length-along : (g : Grid) (from n : ℕ) → row_start g from + length (along (row_of g) from n) ≡ row_start g (from + n)
length-along g from zero = let e = ap (row_start g) (let z : from + 0 ≡ from = omega arith in z) in omega (arith, e)
length-along g from (suc n) =
    let s = row_start-next g from in
    let t = ap (row_start g) (let z : suc from ≡ from + 1 = omega arith in z) in
    let a = length-append (row_of g from) (along (row_of g) (suc from) n) in
    let r = length-along g (suc from) n in
    let e = ap (row_start g) (let z : suc from + n ≡ from + suc n = omega arith in z) in
    omega (arith, s, t, a, r, e)

pub start_rises : (g : Grid) (from to : ℕ) → from ≤ to → row_start g from ≤ row_start g to
start_rises g from to h =
    let l = length-along g from (to - from) in
    let e = ap (row_start g) (let z : from + (to - from) ≡ to = omega (arith, h) in z) in
    omega (arith, l, e)

-- ---- rows without a cell

none_long : (cs : List Cell) → length cs ≡ 0 → cs ≡ []
none_long [] h = refl
none_long (c ∷ cs) h = absurd (omega (arith, h))

-- where they end as they start there is none
pub blank_between : (g : Grid) (from to : ℕ) → row_start g from ≡ row_start g to → along (row_of g) from (to - from) ≡ []
blank_between g from to h = go (to - from) refl
  where
    go : (n : ℕ) → to - from ≡ n → along (row_of g) from n ≡ []
    go zero e = refl
    go (suc n) e =
        let l = length-along g from (suc n) in
        let t = ap (row_start g) (let z : from + suc n ≡ to = omega (arith, e) in z) in
        none_long (along (row_of g) from (suc n)) (omega (arith, l, t, h))

-- and the other way round
pub blank_same : (g : Grid) (from to : ℕ) → from ≤ to → along (row_of g) from (to - from) ≡ [] → row_start g from ≡ row_start g to
blank_same g from to l h =
    let a = length-along g from (to - from) in
    let t = ap (row_start g) (let z : from + (to - from) ≡ to = omega (arith, l) in z) in
    let z = ap length h in
    omega (arith, a, t, z)

both_none : (xs ys : List Cell) → xs ++ ys ≡ [] → (xs ≡ []) × (ys ≡ [])
both_none [] ys h = (refl, h)
both_none (x ∷ xs) ys h = absurd (cc)

-- each of them has none
pub row_blank : (g : Grid) (from n i : ℕ) → along (row_of g) from n ≡ [] → from ≤ i → i < from + n → row_of g i ≡ []
row_blank g from zero i h l u = absurd (omega (arith, l, u))
row_blank g from (suc n) i h l u =
    let both = both_none (row_of g from) (along (row_of g) (suc from) n) h in
    elim (eqb_tells from i) [
      | inl p ↦ ap (row_of g) (sym p.1) ∙ both.0
      | inr p ↦ row_blank g (suc from) n i both.1 (let q = p.1 in omega (arith, l, q)) (omega (arith, u))
    ]

-- ---- full rows: where a matrix has as many entries as positions, each row has as many as columns

starts_few : (g : Grid) (from n : ℕ) → IsGrid g → row_start g (from + n) ≤ row_start g from + n * g.columns
starts_few g from zero h = let e = ap (row_start g) (let z : from + 0 ≡ from = omega arith in z) in omega (arith, e)
starts_few g from (suc n) h =
    let s = row_start-next g from in
    let t = ap (row_start g) (let z : suc from ≡ from + 1 = omega arith in z) in
    let w = length-row_of g from h in
    let r = starts_few g (suc from) n h in
    let e = ap (row_start g) (let z : suc from + n ≡ from + suc n = omega arith in z) in
    let m = suc-mul n g.columns in
    omega (arith, s, t, w, r, e, m)

pub row_full : (g : Grid) (i : ℕ) → IsGrid g → len g.cells ≡ g.rows * g.columns → i < g.rows → length (row_of g i) ≡ g.columns
row_full g i h full l =
    let rest = g.rows - (i + 1) in
    let all = row_start-all g h in
    let entries = len-entries g.cells in
    let zero_is = row_start-zero g in
    let before = starts_few g 0 i h in
    let next = row_start-next g i in
    let behind = starts_few g (i + 1) rest h in
    let end = ap (row_start g) (let z : i + 1 + rest ≡ g.rows = omega (arith, l) in z) in
    let begin = ap (row_start g) (let z : 0 + i ≡ i = omega arith in z) in
    let parts = ap (λ n. n * g.columns) (let z : g.rows ≡ suc i + rest = omega (arith, l) in z) in
    let two = add-mul (suc i) rest g.columns in
    let one = suc-mul i g.columns in
    let most = length-row_of g i h in
    omega (arith, all, entries, full, zero_is, before, next, behind, end, begin, parts, two, one, most)
