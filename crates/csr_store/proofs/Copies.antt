-- Rows of a matrix as rows of a run: their ends and their cells, behind those of the rows before them.
use Rattle.std.proofs.Common.{◌≡◌, ◌≤◌, ◌<◌, ◌+◌, ◌-◌, ◌%◌, ◌^◌, ℕ, zero, suc, List, [], ◌∷◌, ◌++◌, length, map, take, drop, get_or, refl, sym, ap, ◌∙◌, subst, arith, length-drop}
use Rattle.std.specs.List.{AllByRecursion}
use Rattle.std.proofs.lemmas.List.{take-take, drop-take, drop-drop, drop_more, length-take-le, take-append-drop}
use Rattle.csr_store.specs.Grid.{Grid, IsGrid, Cell, row_of}
use Rattle.csr_store.specs.Along.{along}
use Rattle.csr_store.specs.ByRows.{grid, by_rows, ends_of}
use Rattle.csr_store.specs.inner.ByRows.{AreStarts}
use Rattle.csr_store.specs.inner.Run.{IsRow, AreRows, AreEnds, ended_rows, open_row}
use Rattle.csr_store.specs.inner.Moved.{moved}
use Rattle.csr_store.proofs.Moved.{moved_back}
use Rattle.csr_store.proofs.Slicing.{start_within, row_between, length_starts}
use Rattle.csr_store.proofs.ByRow.{row_ascends, cell_inside, cell_word}
use Rattle.csr_store.proofs.Runs.{row_none, run}

module _ (rows columns : ℕ) (starts : List ℕ) (cells : List Cell) (h : AreStarts rows starts cells) where
  abbrev pub start : ℕ → ℕ
  start k = get_or starts k 0

  pub starts_rise : (k m : ℕ) → k + m ≤ rows → start k ≤ start (k + m)
  starts_rise k zero l = let z : k ≡ k + 0 = omega arith in rw (← z) (omega arith)
  starts_rise k (suc m) l =
      let r = starts_rise k m (omega arith) in
      let b = (start_within rows columns starts cells h (k + m) (omega arith)).0 in
      let z : k + suc m ≡ k + m + 1 = omega arith in
      rw z (omega arith)

  -- where the rows from k on end, m of them, counted from a base
  abbrev pub ends_at : ℕ → ℕ → ℕ → List ℕ
  ends_at base k m = map (λ e. e - base) (take m (drop (k + 1) starts))

  ends_next : (base k m : ℕ) → k < rows → ends_at base k (suc m) ≡ (start (k + 1) - base) ∷ ends_at base (k + 1) m
  ends_next base k m l =
      let n = length_starts rows starts cells h in
      ap (λ es. map (λ e. e - base) (take (suc m) es)) (drop_more starts (k + 1) 0 (omega (arith, n)))

  -- the cells of the rows from k on, m of them
  abbrev pub cells_at : ℕ → ℕ → List Cell
  cells_at k m = take (start (k + m) - start k) (drop (start k) cells)

  first_row : (k m : ℕ) → k + suc m ≤ rows → take (start (k + 1) - start k) (cells_at k (suc m)) ≡ row_of (grid rows columns (by_rows (ends_of starts) cells)) k
  first_row k m l =
      let z : k + 1 + m ≡ k + suc m = omega arith in
      let a = starts_rise (k + 1) m (omega arith) in
      let b : start (k + 1) ≤ start (k + suc m) = rw z at a in
      take-take (start (k + 1) - start k) (start (k + suc m) - start k) (drop (start k) cells) (omega arith)
      ∙ sym (row_between rows columns starts cells h k (omega arith))

  other_rows : (k m : ℕ) → k + suc m ≤ rows → drop (start (k + 1) - start k) (cells_at k (suc m)) ≡ cells_at (k + 1) m
  other_rows k m l =
      let z : k + 1 + m ≡ k + suc m = omega arith in
      let a = starts_rise (k + 1) m (omega arith) in
      let b : start (k + 1) ≤ start (k + suc m) = rw z at a in
      let s : start k ≤ start (k + 1) = starts_rise k 1 (omega arith) in
      let p : start (k + suc m) - start k ≡ (start (k + 1) - start k) + (start (k + suc m) - start (k + 1)) = omega arith in
      let q : start k + (start (k + 1) - start k) ≡ start (k + 1) = omega arith in
      ap (λ n. drop (start (k + 1) - start k) (take n (drop (start k) cells))) p
      ∙ (drop-take (start (k + 1) - start k) (start (k + suc m) - start (k + 1)) (drop (start k) cells)
      ∙ (ap (take (start (k + suc m) - start (k + 1))) (drop-drop (start (k + 1) - start k) (start k) cells ∙ ap (λ n. drop n cells) q)
      ∙ ap (λ n. take (start n - start (k + 1)) (drop (start (k + 1)) cells)) (sym z)))

  -- they are those of each row, joined
  pub cells_along : (k m : ℕ) → k + m ≤ rows → cells_at k m ≡ along (λ i. row_of (grid rows columns (by_rows (ends_of starts) cells)) i) k m
  cells_along k zero l =
      let n : k + 0 ≡ k = omega arith in
      let z : start (k + 0) - start k ≡ 0 = ap (λ i. start i - start k) n ∙ omega arith in
      ap (λ n. take n (drop (start k) cells)) z
  cells_along k (suc m) l =
      let n : k + 1 ≡ suc k = omega arith in
      sym (take-append-drop (start (k + 1) - start k) (cells_at k (suc m)))
      ∙ (ap (λ (xs : List Cell). xs ++ drop (start (k + 1) - start k) (cells_at k (suc m))) (first_row k m l)
      ∙ ap (λ (xs : List Cell). row_of (grid rows columns (by_rows (ends_of starts) cells)) k ++ xs)
      (other_rows k m l ∙ (cells_along (k + 1) m (omega arith) ∙ ap (λ i. along (λ i. row_of (grid rows columns (by_rows (ends_of starts) cells)) i) i m) n)))

  pub copied_rows : (base k m : ℕ) → base ≤ start k → k + m ≤ rows
      → ended_rows (start k - base) (ends_at base k m) (cells_at k m) ≡ along (λ i. row_of (grid rows columns (by_rows (ends_of starts) cells)) i ∷ []) k m
  copied_rows base k zero b l = refl
  copied_rows base k (suc m) b l =
      let s : start k ≤ start (k + 1) = starts_rise k 1 (omega arith) in
      let d : start (k + 1) - base - (start k - base) ≡ start (k + 1) - start k = omega arith in
      let n : k + 1 ≡ suc k = omega arith in
      rw (ends_next base k m (omega arith), d, first_row k m l, other_rows k m l)
      (ap (λ rs. row_of (grid rows columns (by_rows (ends_of starts) cells)) k ∷ rs)
      (copied_rows base (k + 1) m (omega arith) (omega arith) ∙ ap (λ i. along (λ i. row_of (grid rows columns (by_rows (ends_of starts) cells)) i ∷ []) i m) n))

  pub none_open : (base k m : ℕ) → base ≤ start k → k + m ≤ rows → open_row (start k - base) (ends_at base k m) (cells_at k m) ≡ []
  none_open base k zero b l = let n : k + 0 ≡ k = omega arith in let z : start (k + 0) - start k ≡ 0 = ap (λ i. start i - start k) n ∙ omega arith in ap (λ n. take n (drop (start k) cells)) z
  none_open base k (suc m) b l =
      let s : start k ≤ start (k + 1) = starts_rise k 1 (omega arith) in
      let d : start (k + 1) - base - (start k - base) ≡ start (k + 1) - start k = omega arith in
      ap (λ es. open_row (start k - base) es (cells_at k (suc m))) (ends_next base k m (omega arith))
      ∙ (ap (λ n. open_row (start (k + 1) - base) (ends_at base (k + 1) m) (drop n (cells_at k (suc m)))) d
      ∙ (ap (open_row (start (k + 1) - base) (ends_at base (k + 1) m)) (other_rows k m l) ∙ none_open base (k + 1) m (omega arith) (omega arith)))

  pub ends_ascend : (base k m most : ℕ) → base ≤ start k → k + m ≤ rows → start (k + m) - base ≤ most → AreEnds (start k - base) (ends_at base k m) most
  ends_ascend base k zero most b l t = let z : k + 0 ≡ k = omega arith in rw z at t
  ends_ascend base k (suc m) most b l t =
      let s : start k ≤ start (k + 1) = starts_rise k 1 (omega arith) in
      let z : k + 1 + m ≡ k + suc m = omega arith in
      rw (ends_next base k m (omega arith)) (omega arith, ends_ascend base (k + 1) m most (omega arith) (omega arith) (rw z t))

  pub start_below : (k : ℕ) → k ≤ rows → start k ≤ length cells
  start_below zero l = let z = ap (λ (xs : List ℕ). get_or xs 0 0) h.begin in omega (arith, z)
  start_below (suc k) l = let z : k + 1 ≡ suc k = omega arith in let b = (start_within rows columns starts cells h k (omega arith)).1 in rw z at b

  -- the same ends by words that were moved back
  ends_moved : (distance base k m : ℕ) → (distance + base) % 2 ^ 64 ≡ 0 → base ≤ start k → k + m ≤ rows → length cells < 2 ^ 64
      → map (moved distance) (take m (drop (k + 1) starts)) ≡ ends_at base k m
  ends_moved distance base k zero d b l w = refl
  ends_moved distance base k (suc m) d b l w =
      let n = length_starts rows starts cells h in
      let s : start k ≤ start (k + 1) = starts_rise k 1 (omega arith) in
      let t = start_below (k + 1) (omega arith) in
      rw (drop_more starts (k + 1) 0 (omega (arith, n)), moved_back distance base (start (k + 1)) d (omega arith) (omega arith))
      (ap (λ es. (start (k + 1) - base) ∷ es) (ends_moved distance base (k + 1) m d (omega arith) (omega arith) w))

  abbrev pub the_grid : Grid
  the_grid = grid rows columns (by_rows (ends_of starts) cells)

  each_of : (P : Cell → Type 0) (xs : List Cell) → ((k : ℕ) (d : Cell) → k < length xs → P (get_or xs k d)) → AllByRecursion P xs
  each_of P [] f = tt
  each_of P (x ∷ xs) f = (f 0 x (omega arith), each_of P xs (λ k d l. f (suc k) d (omega arith)))

  is_row : IsGrid the_grid → (k : ℕ) → IsRow columns (row_of the_grid k)
  is_row g k = record {
    ascending = row_ascends the_grid k;
    within = each_of (λ (c : Cell). (c.0 < columns) × (c.1 < 2 ^ 64)) (row_of the_grid k) (λ i d l. ((cell_inside the_grid k i d g l).1, cell_word the_grid k i d g l));
  }

  are_rows : IsGrid the_grid → (k m : ℕ) → AllByRecursion (λ r. IsRow columns r) (along (λ i. row_of the_grid i ∷ []) k m)
  are_rows g k zero = tt
  are_rows g k (suc m) = (is_row g k, are_rows g (suc k) m)

  none_before : (k : ℕ) → start k - start k ≡ 0
  none_before k = omega arith

  pub copied_are : IsGrid the_grid → (k m : ℕ) (ends : List ℕ) (copied : List Cell) → k + m ≤ rows → ends ≡ ends_at (start k) k m → copied ≡ cells_at k m → AreRows columns ends copied
  copied_are g k m ends copied l e c =
      let s = start_below (k + m) l in
      let r = starts_rise k m l in
      let n : length (cells_at k m) ≡ start (k + m) - start k = length-take-le (start (k + m) - start k) (drop (start k) cells) (omega (arith, s, length-drop (start k) cells)) in
      rw (e, c) (record {
        ends_rise = rw (none_before k) at (ends_ascend (start k) k m (length (cells_at k m)) (omega arith) l (omega (arith, n)));
        ended_are = subst (AllByRecursion (λ r. IsRow columns r)) (sym (rw (none_before k) at (copied_rows (start k) k m (omega arith) l))) (are_rows g k m);
        open_is = subst (IsRow columns) (sym (rw (none_before k) at (none_open (start k) k m (omega arith) l))) (row_none columns);
      })

  pub copied_run : (k m : ℕ) (ends : List ℕ) (copied : List Cell) → k + m ≤ rows → ends ≡ ends_at (start k) k m → copied ≡ cells_at k m
      → run k columns ends copied ≡ record { first = k; columns = columns; ended = along (λ i. row_of the_grid i ∷ []) k m; opened = [] }
  copied_run k m ends copied l e c =
      rw (e, c) (rw (rw (none_before k) at (copied_rows (start k) k m (omega arith) l), rw (none_before k) at (none_open (start k) k m (omega arith) l)) refl)

  pub ends_are : (distance base from to : ℕ) (xs : List ℕ) → (distance + base) % 2 ^ 64 ≡ 0 → base ≡ start from → xs ≡ starts
      → from ≤ to → to ≤ rows → length cells < 2 ^ 64
      → map (moved distance) (take (to + 1 - (from + 1)) (drop (from + 1) xs)) ≡ ends_at (start from) from (to - from)
  ends_are distance base from to xs d b e o l w =
      let n : to + 1 - (from + 1) ≡ to - from = omega arith in
      rw (e, n) (ends_moved distance (start from) from (to - from) (ap (λ k. (distance + k) % 2 ^ 64) (sym b) ∙ d) (omega arith) (omega arith) w)

  pub cells_are : (b t from to : ℕ) (xs : List Cell) → from ≤ to → b ≡ start from → t ≡ start to → xs ≡ cells → take (t - b) (drop b xs) ≡ cells_at from (to - from)
  cells_are b t from to xs l p q e =
      let n : from + (to - from) ≡ to = omega arith in
      rw (p, q, e) (ap (λ k. take (start k - start from) (drop (start from) cells)) (sym n))
