-- The matrix of rows that are given position by position.
use Rattle.std.proofs.Common.{◌≡◌, ◌<◌, ◌≤◌, ℕ, zero, suc, ◌+◌, true, false, cond, nat_eq, Bool, List, [], ◌∷◌, ◌++◌, map, filter, Option, Some, None, refl, sym, ap, ◌∙◌, inl, inr, arith, eq-eqb, append-nil}
use Rattle.std.proofs.lemmas.Bool.{ne_eqb}
use Rattle.std.proofs.lemmas.Bool.Decides.{eqb_tells}
use Rattle.std.specs.Map.{lookup}
use Rattle.std.specs.FinMap.{get-from_entries}
use Rattle.csr_store.specs.Grid.{Cell, Entry, IsGrid, row_cells, at_row}
use Rattle.csr_store.specs.Along.{along, cell_at, row_by}
use Rattle.csr_store.specs.ByRows.{grid}
use Rattle.csr_store.specs.Run.{Row, numbered}
use Rattle.csr_store.proofs.Order.{pos_total}
use Rattle.csr_store.proofs.ByRow.{lookup-row_cells}
use Rattle.job_plan.specs.Job.{Job}
use Rattle.job_plan.specs.Meaning.{IsMatrixOf, row_count, column_count, value_at, rows_in}

-- ---- the entries of rows, row by row

own_cells : (i : ℕ) (cs : List Cell) → row_cells i (at_row i cs) ≡ cs
own_cells i [] = refl
own_cells i (c ∷ cs) = rw (eq-eqb i i refl) (ap (λ (xs : List Cell). c ∷ xs) (own_cells i cs))

other_cells : (i k : ℕ) (cs : List Cell) → (k ≡ i → ⊥) → row_cells i (at_row k cs) ≡ []
other_cells i k [] h = refl
other_cells i k (c ∷ cs) h = rw (ne_eqb k i h) (other_cells i k cs h)

cells-append : (i : ℕ) (xs ys : List Entry) → row_cells i (xs ++ ys) ≡ row_cells i xs ++ row_cells i ys
cells-append i [] ys = refl
cells-append i (x ∷ xs) ys = go (nat_eq x.0.0 i) (cells-append i xs ys)
  where
    go : (b : Bool) → row_cells i (xs ++ ys) ≡ row_cells i xs ++ row_cells i ys
        → map (λ (e : Entry). (e.0.1, e.1)) (cond b (x ∷ filter (λ (e : Entry). nat_eq e.0.0 i) (xs ++ ys))
        (filter (λ (e : Entry). nat_eq e.0.0 i) (xs ++ ys)))
        ≡ map (λ (e : Entry). (e.0.1, e.1)) (cond b (x ∷ filter (λ (e : Entry). nat_eq e.0.0 i) xs)
        (filter (λ (e : Entry). nat_eq e.0.0 i) xs)) ++ row_cells i ys
    go true h = ap (λ (cs : List Cell). (x.0.1, x.1) ∷ cs) h
    go false h = h

later_cells : (i k : ℕ) (row : ℕ → Row) (from n : ℕ) → i < k → row_cells i (numbered k (along (λ r. row r ∷ []) from n)) ≡ []
later_cells i k row from zero l = refl
later_cells i k row from (suc n) l =
    cells-append i (at_row k (row from)) (numbered (k + 1) (along (λ r. row r ∷ []) (suc from) n))
    ∙ ap (λ (cs : List Cell). cs ++ row_cells i (numbered (k + 1) (along (λ r. row r ∷ []) (suc from) n)))
    (other_cells i k (row from) (λ e. omega (arith, e, l)))
    ∙ later_cells i (k + 1) row (suc from) n (omega (arith, l))

-- the cells of row i are those that are given for it
cells_are : (i : ℕ) (row : ℕ → Row) (from n : ℕ) → from ≤ i → i < from + n
    → row_cells i (numbered from (along (λ r. row r ∷ []) from n)) ≡ row i
cells_are i row from zero l u = absurd (omega (arith, l, u))
cells_are i row from (suc n) l u =
    cells-append i (at_row from (row from)) (numbered (from + 1) (along (λ r. row r ∷ []) (suc from) n))
    ∙ elim (eqb_tells from i) [
      | inl p ↦ here p.1
      | inr p ↦ later p.1 (cells_are i row (suc from) n)
    ]
  where
    here : from ≡ i → row_cells i (at_row from (row from)) ++ row_cells i
        (numbered (from + 1) (along (λ r. row r ∷ []) (suc from) n)) ≡ row i
    here q =
        ap (λ (cs : List Cell). row_cells i (at_row from (row from)) ++ cs)
        (later_cells i (from + 1) row (suc from) n (omega (arith, q)))
        ∙ append-nil (row_cells i (at_row from (row from)))
        ∙ ap (λ k. row_cells i (at_row k (row k))) q
        ∙ own_cells i (row i)

    later : (from ≡ i → ⊥) → (suc from ≤ i → i < suc from + n
        → row_cells i (numbered (suc from) (along (λ r. row r ∷ []) (suc from) n)) ≡ row i)
        → row_cells i (at_row from (row from)) ++ row_cells i (numbered (from + 1) (along (λ r. row r ∷ []) (suc from) n)) ≡ row i
    later q rest =
        let e : from + 1 ≡ suc from = omega arith in
        ap (λ (cs : List Cell). cs ++ row_cells i (numbered (from + 1) (along (λ r. row r ∷ []) (suc from) n)))
        (other_cells i from (row from) q)
        ∙ ap (λ k. row_cells i (numbered k (along (λ r. row r ∷ []) (suc from) n))) e
        ∙ rest (omega (arith, l, q)) (omega (arith, u))

-- ---- a row, column by column

before : (at : ℕ → Option ℕ) (j from n : ℕ) → j < from → lookup (nat_eq j) (along (λ k. cell_at k (at k)) from n) ≡ None
before at j from zero l = refl
before at j from (suc n) l = go (at from) (before at j (suc from) n (omega (arith, l)))
  where
    go : (o : Option ℕ) → lookup (nat_eq j) (along (λ k. cell_at k (at k)) (suc from) n) ≡ None
        → lookup (nat_eq j) (cell_at from o ++ along (λ k. cell_at k (at k)) (suc from) n) ≡ None
    go None h = h
    go (Some v) h = ap (λ b. cond b (Some v) (lookup (nat_eq j) (along (λ k. cell_at k (at k)) (suc from) n)))
        (ne_eqb j from (λ q. omega (arith, q, l))) ∙ h

value_in : (at : ℕ → Option ℕ) (j from n : ℕ) → from ≤ j → j < from + n
    → lookup (nat_eq j) (along (λ k. cell_at k (at k)) from n) ≡ at j
value_in at j from zero l u = absurd (omega (arith, l, u))
value_in at j from (suc n) l u = elim (eqb_tells from j) [
  | inl p ↦ here (at from) p.1 refl
  | inr p ↦ later (at from) p.1 (value_in at j (suc from) n (let q = p.1 in omega (arith, l, q)) (omega (arith, u)))
]
  where
    here : (o : Option ℕ) → from ≡ j → o ≡ at from
        → lookup (nat_eq j) (cell_at from o ++ along (λ k. cell_at k (at k)) (suc from) n) ≡ at j
    here None q e = before at j (suc from) n (omega (arith, q)) ∙ e ∙ ap at q
    here (Some v) q e =
        ap (λ b. cond b (Some v) (lookup (nat_eq j) (along (λ k. cell_at k (at k)) (suc from) n))) (eq-eqb j from (sym q)) ∙ e
        ∙ ap at q

    later : (o : Option ℕ) → (from ≡ j → ⊥) → lookup (nat_eq j) (along (λ k. cell_at k (at k)) (suc from) n) ≡ at j
        → lookup (nat_eq j) (cell_at from o ++ along (λ k. cell_at k (at k)) (suc from) n) ≡ at j
    later None q h = h
    later (Some v) q h =
        ap (λ b. cond b (Some v) (lookup (nat_eq j) (along (λ k. cell_at k (at k)) (suc from) n))) (ne_eqb j from (λ e. q (sym e)))
        ∙ h

-- ---- a job's rows make its matrix

pub matrix_of : (job : Job) → IsGrid (grid (row_count job) (column_count job) (numbered 0 (rows_in job 0 (row_count job))))
    → IsMatrixOf job (grid (row_count job) (column_count job) (numbered 0 (rows_in job 0 (row_count job))))
matrix_of job within = record {
  grid = within;
  rows = refl;
  columns = refl;
  values = λ at inside.
      let row : ℕ → Row = λ i. row_by (column_count job) (λ j. value_at job (i, j)) in
      get-from_entries pos_total (numbered 0 (along (λ i. row i ∷ []) 0 (row_count job))) at
      ∙ sym (lookup-row_cells (numbered 0 (along (λ i. row i ∷ []) 0 (row_count job))) at.0 at.1)
      ∙ ap (lookup (nat_eq at.1)) (cells_are at.0 row 0 (row_count job) (omega arith) (let i = inside.0 in omega (arith, i)))
      ∙ value_in (λ j. value_at job (at.0, j)) at.1 0 (column_count job) (omega arith) (let j = inside.1 in omega (arith, j));
}
