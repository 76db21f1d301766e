-- The rows of a list of cells, by where each row ends.
use Rattle.std.proofs.Common.{zero, suc, ◌≡◌, ◌≤◌, ◌<◌, ◌+◌, ◌-◌, ℕ, List, [], ◌∷◌, ◌++◌, map, filter, length, take, drop, get_or, nat_eq, refl, sym, ap, ◌∙◌, subst, arith, eq-eqb, append-nil, length-take, length-drop}
use Rattle.std.specs.List.{range_with_len}
use Rattle.std.proofs.lemmas.Bool.{ne_eqb}
use Rattle.std.proofs.lemmas.List.{map-append, drop-drop, ext_get_or}
use Rattle.std.proofs.lemmas.List.FromFn.{length-map-range_with_len, get_or-map-range_with_len}
use Rattle.std.proofs.lemmas.List.Elements.{filter-append}
use Rattle.csr_store.specs.Grid.{Cell, Entry, at_row, row_cells, row_of, row_start}
use Rattle.csr_store.specs.ByRows.{grid, entries_from, by_rows, ends_of}
use Rattle.csr_store.specs.inner.ByRows.{Within, AreStarts}
use Rattle.csr_store.proofs.Laws.{entries-from_entries}
use Rattle.csr_store.proofs.ByRow.{row_start-zero, row_start-next}

row_cells-own : (i : ℕ) (cs : List Cell) → row_cells i (at_row i cs) ≡ cs
row_cells-own i [] = refl
row_cells-own i (c ∷ cs) = rw (eq-eqb i i refl) (ap (λ (xs : List Cell). c ∷ xs) (row_cells-own i cs))

row_cells-other : (i j : ℕ) (cs : List Cell) → (j ≡ i → ⊥) → row_cells i (at_row j cs) ≡ []
row_cells-other i j [] h = refl
row_cells-other i j (c ∷ cs) h = rw (ne_eqb j i h) (row_cells-other i j cs h)

row_cells-append : (i : ℕ) (xs ys : List Entry) → row_cells i (xs ++ ys) ≡ row_cells i xs ++ row_cells i ys
row_cells-append i xs ys =
    ap (map (λ (e : Entry). (e.0.1, e.1))) (filter-append (λ (e : Entry). nat_eq e.0.0 i) xs ys)
    ∙ map-append (λ (e : Entry). (e.0.1, e.1)) (filter (λ (e : Entry). nat_eq e.0.0 i) xs) (filter (λ (e : Entry). nat_eq e.0.0 i) ys)

row_cells-later : (i j from : ℕ) (ends : List ℕ) (cs : List Cell) → i < j → row_cells i (entries_from j from ends cs) ≡ []
row_cells-later i j from [] cs l = row_cells-other i j cs (λ e. omega arith)
row_cells-later i j from (e ∷ ends) cs l =
    row_cells-append i (at_row j (take (e - from) cs)) (entries_from (j + 1) e ends (drop (e - from) cs))
    ∙ (ap (λ (xs : List Cell). xs ++ row_cells i (entries_from (j + 1) e ends (drop (e - from) cs))) (row_cells-other i j (take (e - from) cs) (λ q. omega arith))
    ∙ row_cells-later i (j + 1) e ends (drop (e - from) cs) (omega arith))

-- the first row, and a later one
row_first : (i from e : ℕ) (ends : List ℕ) (cs : List Cell) → row_cells i (entries_from i from (e ∷ ends) cs) ≡ take (e - from) cs
row_first i from e ends cs =
    row_cells-append i (at_row i (take (e - from) cs)) (entries_from (i + 1) e ends (drop (e - from) cs))
    ∙ (ap (λ (xs : List Cell). row_cells i (at_row i (take (e - from) cs)) ++ xs) (row_cells-later i (i + 1) e ends (drop (e - from) cs) (omega arith))
    ∙ (append-nil (row_cells i (at_row i (take (e - from) cs))) ∙ row_cells-own i (take (e - from) cs)))

row_behind_first : (i k from e : ℕ) (ends : List ℕ) (cs : List Cell) → row_cells (i + suc k) (entries_from i from (e ∷ ends) cs) ≡ row_cells (i + 1 + k) (entries_from (i + 1) e ends (drop (e - from) cs))
row_behind_first i k from e ends cs =
    row_cells-append (i + suc k) (at_row i (take (e - from) cs)) (entries_from (i + 1) e ends (drop (e - from) cs))
    ∙ (ap (λ (xs : List Cell). xs ++ row_cells (i + suc k) (entries_from (i + 1) e ends (drop (e - from) cs))) (row_cells-other (i + suc k) i (take (e - from) cs) (λ q. omega arith))
    ∙ ap (λ n. row_cells n (entries_from (i + 1) e ends (drop (e - from) cs))) (let q : i + suc k ≡ i + 1 + k = omega arith in q))

-- Where a row starts and ends.

start_bounds : (k from : ℕ) (ends : List ℕ) (n : ℕ) → Within from ends n → k ≤ length ends → (from ≤ get_or (from ∷ ends) k 0) × (get_or (from ∷ ends) k 0 ≤ from + n)
start_bounds zero from ends n w l = (omega arith, omega arith)
start_bounds (suc k) from [] n w l = absurd (omega arith)
start_bounds (suc k) from (e ∷ ends) n w l =
    let r = start_bounds k e ends (n - (e - from)) w.1.1 (omega arith) in
    let a = w.0 in let b = w.1.0 in let c = r.0 in let d = r.1 in
    (omega arith, omega arith)

row_bounds : (k from : ℕ) (ends : List ℕ) (n : ℕ) → Within from ends n → k < length ends → (get_or (from ∷ ends) k 0 ≤ get_or ends k 0) × (get_or ends k 0 ≤ from + n)
row_bounds k from [] n w l = absurd (omega arith)
row_bounds zero from (e ∷ ends) n w l = (w.0, w.1.0)
row_bounds (suc k) from (e ∷ ends) n w l =
    let r = row_bounds k e ends (n - (e - from)) w.1.1 (omega arith) in
    let a = w.0 in let b = w.1.0 in let d = r.1 in
    (r.0, omega arith)

-- the rows that have an end
row_ended_from : (k i from : ℕ) (ends : List ℕ) (cs : List Cell) → Within from ends (length cs) → k < length ends
    → row_cells (i + k) (entries_from i from ends cs) ≡ take (get_or ends k 0 - get_or (from ∷ ends) k 0) (drop (get_or (from ∷ ends) k 0 - from) cs)
row_ended_from k i from [] cs w l = absurd (omega arith)
row_ended_from zero i from (e ∷ ends) cs w l =
    ap (λ n. row_cells n (entries_from i from (e ∷ ends) cs)) (let q : i + 0 ≡ i = omega arith in q) ∙ row_first i from e ends cs
    ∙ ap (λ n. take (e - from) (drop n cs)) (let q : 0 ≡ from - from = omega arith in q)
row_ended_from (suc k) i from (e ∷ ends) cs w l =
    let inner : Within e ends (length (drop (e - from) cs)) = subst (λ (n : ℕ). Within e ends n) (sym (length-drop (e - from) cs)) w.1.1 in
    let b = start_bounds k e ends _ inner (omega arith) in
    let low = b.0 in let a = w.0 in
    row_behind_first i k from e ends cs ∙ row_ended_from k (i + 1) e ends (drop (e - from) cs) inner (omega arith)
    ∙ ap (take (get_or ends k 0 - get_or (e ∷ ends) k 0)) (drop-drop (get_or (e ∷ ends) k 0 - e) (e - from) cs ∙ ap (λ n. drop n cs) (let q : e - from + (get_or (e ∷ ends) k 0 - e) ≡ get_or (e ∷ ends) k 0 - from = omega arith in q))

here : (k : ℕ) → 0 + k ≡ k
here k = omega arith

minus_none : (k : ℕ) → k - 0 ≡ k
minus_none k = omega arith

row_ended : (k : ℕ) (ends : List ℕ) (cs : List Cell) → Within 0 ends (length cs) → k < length ends → row_cells k (by_rows ends cs) ≡ take (get_or ends k 0 - get_or (0 ∷ ends) k 0) (drop (get_or (0 ∷ ends) k 0) cs)
row_ended k ends cs w l =
    ap (λ n. row_cells n (by_rows ends cs)) (sym (here k)) ∙ row_ended_from k 0 0 ends cs w l
    ∙ ap (λ n. take (get_or ends k 0 - get_or (0 ∷ ends) k 0) (drop n cs)) (minus_none (get_or (0 ∷ ends) k 0))

-- Rows of a matrix, by its starts.

pub length_starts : (rows : ℕ) (starts : List ℕ) (cells : List Cell) → AreStarts rows starts cells → length starts ≡ rows + 1
length_starts rows starts cells h = let n = h.count in ap length h.begin ∙ (let q : suc (length (ends_of starts)) ≡ rows + 1 = omega arith in q)

start_at : (starts : List ℕ) (k : ℕ) → starts ≡ 0 ∷ ends_of starts → get_or starts k 0 ≡ get_or (0 ∷ ends_of starts) k 0
start_at starts k e = ap (λ (xs : List ℕ). get_or xs k 0) e

end_at : (starts : List ℕ) (k : ℕ) → starts ≡ 0 ∷ ends_of starts → get_or starts (k + 1) 0 ≡ get_or (ends_of starts) k 0
end_at starts k e = ap (λ n. get_or starts n 0) (let q : k + 1 ≡ suc k = omega arith in q) ∙ ap (λ (xs : List ℕ). get_or xs (suc k) 0) e

module _ (rows columns : ℕ) (starts : List ℕ) (cells : List Cell) (h : AreStarts rows starts cells) where
  pub start_within : (k : ℕ) → k < rows → (get_or starts k 0 ≤ get_or starts (k + 1) 0) × (get_or starts (k + 1) 0 ≤ length cells)
  start_within k l =
      let n = h.count in
      let b = row_bounds k 0 (ends_of starts) (length cells) h.within (omega arith) in
      let s = start_at starts k h.begin in let e = end_at starts k h.begin in
      let p = b.0 in let q = b.1 in
      (omega arith, omega arith)

  pub row_between : (k : ℕ) → k < rows → row_of (grid rows columns (by_rows (ends_of starts) cells)) k ≡ take (get_or starts (k + 1) 0 - get_or starts k 0) (drop (get_or starts k 0) cells)
  row_between k l =
      ap (row_cells k) (entries-from_entries _ h.ascending) ∙ row_ended k (ends_of starts) cells h.within (let n = h.count in omega arith)
      ∙ ap (λ n. take (n - get_or (0 ∷ ends_of starts) k 0) (drop (get_or (0 ∷ ends_of starts) k 0) cells)) (sym (end_at starts k h.begin))
      ∙ ap (λ n. take (get_or starts (k + 1) 0 - n) (drop n cells)) (sym (start_at starts k h.begin))

  length_between : (k : ℕ) → k < rows → length (row_of (grid rows columns (by_rows (ends_of starts) cells)) k) ≡ get_or starts (k + 1) 0 - get_or starts k 0
  length_between k l =
      let b = start_within k l in
      let p = b.0 in let q = b.1 in
      ap length (row_between k l) ∙ omega (arith, length-take (get_or starts (k + 1) 0 - get_or starts k 0) (drop (get_or starts k 0) cells), length-drop (get_or starts k 0) cells)

  -- a start is the number of entries before
  pub start_is : (k : ℕ) → k ≤ rows → get_or starts k 0 ≡ row_start (grid rows columns (by_rows (ends_of starts) cells)) k
  start_is zero l = start_at starts 0 h.begin ∙ sym (row_start-zero (grid rows columns (by_rows (ends_of starts) cells)))
  start_is (suc k) l =
      let before = start_is k (omega arith) in
      let step = row_start-next (grid rows columns (by_rows (ends_of starts) cells)) k in
      let size = length_between k (omega arith) in
      let b = (start_within k (omega arith)).0 in
      ap (λ n. get_or starts n 0) (let q : suc k ≡ k + 1 = omega arith in q)
      ∙ (let total : get_or starts (k + 1) 0 ≡ row_start (grid rows columns (by_rows (ends_of starts) cells)) (k + 1) = omega arith in total)
      ∙ ap (row_start (grid rows columns (by_rows (ends_of starts) cells))) (let q : k + 1 ≡ suc k = omega arith in q)

  pub starts_are : starts ≡ map (row_start (grid rows columns (by_rows (ends_of starts) cells))) (range_with_len 0 (rows + 1))
  starts_are =
      let n = length_starts rows starts cells h in
      ext_get_or 0 starts _ (n ∙ sym (length-map-range_with_len (row_start (grid rows columns (by_rows (ends_of starts) cells))) 0 (rows + 1)))
      (λ k l. start_is k (omega arith) ∙ sym (get_or-map-range_with_len (row_start (grid rows columns (by_rows (ends_of starts) cells))) 0 (rows + 1) k k 0 (omega arith) (here k)))
