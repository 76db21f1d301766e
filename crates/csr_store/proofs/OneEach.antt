-- Rows that have one cell each: what is kept of them, cell by cell.
use Rattle.std.proofs.Common.{◌≡◌, ◌≤◌, ◌<◌, ◌+◌, ◌-◌, ◌^◌, ℕ, zero, suc, Bool, true, false, nat_eq, if◌then◌else◌, List, [], ◌∷◌, ◌++◌, length, take, drop, get_or, refl, sym, ap, ◌∙◌, subst, arith, append-nil}
use Rattle.std.proofs.lemmas.List.{drop_more}
use Rattle.csr_store.specs.Along.{along}
use Rattle.csr_store.specs.Grid.{Cell, Grid, IsGrid, row_of, row_start}
use Rattle.csr_store.specs.Added.{kept_where}
use Rattle.csr_store.specs.Run.{Row}
use Rattle.csr_store.specs.inner.Column.{HaveOneEach}
use Rattle.csr_store.proofs.ByRow.{row_start-next}
use Rattle.csr_store.proofs.InColumn.{start_full}
use Rattle.csr_store.proofs.Keeping.{AreRowsKept, rows_kept_more}
use Rattle.csr_store.proofs.Starting.{length-along}

-- as many cells as rows of one column
pub have_one_each : (g : Grid) (first end : ℕ) (cells : Row) → IsGrid g → g.columns ≡ 1 → first ≤ end → cells ≡ along (row_of g) first (end - first)
    → length cells ≡ end - first → HaveOneEach g first end cells
have_one_each g first end cells is one order e m = record {
  cells_are = e;
  many = m;
  each = λ i l u.
      let n = end - first in
      let s = length-along g first n in
      let c = ap length e in
      let full : row_start g first + n ≤ row_start g (first + n) = omega (arith, s, c, m) in
      let here = start_full g is one first n (first + n) i l (omega (arith, u, order)) (omega arith) full in
      let next = start_full g is one first n (first + n) (i + 1) (omega (arith, l)) (omega (arith, u, order)) (omega arith) full in
      let r = row_start-next g i in
      omega (arith, here, next, r, l);
}

one : (row : Row) (d : Cell) (rest : Row) → length row ≡ 1 → row ≡ get_or (row ++ rest) 0 d ∷ []
one [] d rest e = absurd (omega (arith, e))
one (c ∷ []) d rest e = refl
one (c ∷ b ∷ row) d rest e = absurd (omega (arith, e))

behind : (row : Row) (d : Cell) (rest : Row) (k : ℕ) → length row ≡ 1 → get_or (row ++ rest) (suc k) d ≡ get_or rest k d
behind [] d rest k e = absurd (omega (arith, e))
behind (c ∷ []) d rest k e = refl
behind (c ∷ b ∷ row) d rest k e = absurd (omega (arith, e))

at_row : (g : ℕ → Row) (first n k : ℕ) (d : Cell) → ((i : ℕ) → first ≤ i → i < first + n → length (g i) ≡ 1) → k < n
    → g (first + k) ≡ get_or (along g first n) k d ∷ []
at_row g first zero k d h l = absurd (omega (arith, l))
at_row g first (suc n) zero d h l =
    let z : first + 0 ≡ first = omega arith in
    ap g z ∙ one (g first) d (along g (suc first) n) (h first (omega arith) (omega arith))
at_row g first (suc n) (suc k) d h l =
    let z : first + suc k ≡ suc first + k = omega arith in
    ap g z ∙ at_row g (suc first) n k d (λ i a b. h i (omega (arith, a)) (omega (arith, b))) (omega (arith, l))
    ∙ ap (λ (c : Cell). c ∷ []) (sym (behind (g first) d (along g (suc first) n) k (h first (omega arith) (omega arith))))

kept_cell : (cells : Row) (c : Cell) (answer : ℕ) (new : Row) → new ≡ (if nat_eq answer 0 then cells else cells ++ c ∷ [])
    → new ≡ cells ++ kept_where (c ∷ []) (answer ∷ [])
kept_cell cells c answer new e = e ∙ go (nat_eq answer 0) where
  go : (b : Bool) → (if b then cells else cells ++ c ∷ []) ≡ cells ++ (if b then [] else c ∷ [])
  go true = sym (append-nil cells)
  go false = refl

-- so many of the rows are there, each with its cell if that is kept
pub record AreEachKept (a : Grid) (first end : ℕ) (answers : List ℕ) (k next : ℕ) (ends : List ℕ) (cells : Row) (capacity most : ℕ) : Type 0 where
  pub at : next ≡ k
  pub kept : AreRowsKept a first end answers [] (first + k) (drop k answers) ends cells capacity most

module _ (a : Grid) (first end : ℕ) (all : Row) (each : HaveOneEach a first end all) (answers : List ℕ) (same : length answers ≡ length all) where
  module _ (k next : ℕ) (ends : List ℕ) (cells : Row) (capacity most : ℕ) (h : AreEachKept a first end answers k next ends cells capacity most)
      (l : k < length all) where
    within : first + k < end
    within = let m = each.many in omega (arith, m, l)

    left_is : drop k answers ≡ get_or answers k 0 ∷ drop (k + 1) answers
    left_is = drop_more answers k 0 (omega (arith, same, l))

    row_is : (d : Cell) → get_or all k d ∷ [] ≡ row_of a (first + k)
    row_is d =
        let m = each.many in
        ap (λ (cs : Row). get_or cs k d ∷ []) each.cells_are
        ∙ sym (at_row (row_of a) first (end - first) k d (λ i x y. each.each i x (omega (arith, m, l, y))) (omega (arith, m, l)))

    pub each_more : IsGrid a → (d : Cell) (new : Row) → new ≡ (if nat_eq (get_or answers next 0) 0 then cells else cells ++ get_or all k d ∷ [])
        → (get_or all k d).1 < 2 ^ 64 → (n : ℕ) → n ≡ length new → (more : List ℕ) → more ≡ ends ++ n ∷ [] → (wide wider : ℕ) → capacity ≤ wide → most ≤ wider
        → AreEachKept a first end answers (k + 1) (next + 1) more new wide wider
    each_more g d new e w n long more pushed wide wider u v =
        let z : first + k + 1 ≡ first + (k + 1) = omega arith in
        let is : new ≡ (if nat_eq (get_or answers k 0) 0 then cells else cells ++ get_or all k d ∷ []) =
        e ∙ ap (λ m. if nat_eq (get_or answers m 0) 0 then cells else cells ++ get_or all k d ∷ []) h.at in
        record {
          at = let m = h.at in omega (arith, m);
          kept = subst (λ i. AreRowsKept a first end answers [] i (drop (k + 1) answers) more new wide wider) z
              (rows_kept_more a first end answers [] (first + k) (drop k answers) ends cells capacity most h.kept within g (get_or all k d ∷ []) (row_is d)
              (get_or answers k 0 ∷ []) (drop (k + 1) answers) (sym (ap (take 1) left_is)) (sym (ap (drop 1) left_is))
              new (kept_cell cells (get_or all k d) (get_or answers k 0) new is) (w, tt) n long more pushed wide wider u v);
        }
