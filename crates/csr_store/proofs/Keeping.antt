-- Cells of whole rows kept by their answers.
use Rattle.std.proofs.Common.{◌≡◌, ◌≤◌, ◌<◌, ◌+◌, ◌-◌, ◌^◌, ℕ, suc, Bool, true, false, nat_eq, if◌then◌else◌, List, [], ◌∷◌, ◌++◌, length, take, drop, refl, sym, ap, ◌∙◌, subst, arith, length-append, length-drop, append_assoc}
use Rattle.std.specs.List.{AllByRecursion}
use Rattle.std.proofs.lemmas.List.{take-append-drop, length-take-le}
use Rattle.csr_store.specs.Grid.{Cell, Grid, IsGrid, row_of}
use Rattle.csr_store.specs.Along.{along}
use Rattle.csr_store.specs.Ascending.{Ascends}
use Rattle.csr_store.specs.Added.{kept_where, kept_rows}
use Rattle.csr_store.specs.Run.{Row, Run}
use Rattle.csr_store.specs.inner.Selected.{kept_count}
use Rattle.csr_store.specs.inner.Run.{AreRows, ended_rows, open_row}
use Rattle.csr_store.proofs.Along.{along-next, row_of-ascends}
use Rattle.csr_store.proofs.Appending.{rows_append, run_append, ascends_kept, kept_words}
use Rattle.csr_store.proofs.Runs.{rows_more, run, run_end}

-- as many are kept as have an answer that is not 0
length_kept : (cells : Row) (answers : List ℕ) → length answers ≡ length cells → length (kept_where cells answers) ≡ kept_count answers
length_kept [] [] e = refl
length_kept [] (a ∷ answers) e = absurd (omega (arith, e))
length_kept (c ∷ cells) [] e = absurd (omega (arith, e))
length_kept (c ∷ cells) (a ∷ answers) e = go (nat_eq a 0) (length_kept cells answers (omega (arith, e))) where
  go : (b : Bool) → length (kept_where cells answers) ≡ kept_count answers
      → length (if b then kept_where cells answers else c ∷ kept_where cells answers) ≡ (if b then kept_count answers else suc (kept_count answers))
  go true h = h
  go false h = ap suc h

kept_count-append : (answers more : List ℕ) → kept_count (answers ++ more) ≡ kept_count answers + kept_count more
kept_count-append [] more = omega arith
kept_count-append (a ∷ answers) more = go (nat_eq a 0) (kept_count-append answers more) where
  go : (b : Bool) → kept_count (answers ++ more) ≡ kept_count answers + kept_count more
      → (if b then kept_count (answers ++ more) else suc (kept_count (answers ++ more)))
      ≡ (if b then kept_count answers else suc (kept_count answers)) + kept_count more
  go true h = h
  go false h = omega (arith, h)

parts : {X : Type 0} (k : ℕ) (all front back : List X) → front ≡ take k all → back ≡ drop k all → all ≡ front ++ back
parts k all front back f b = sym (ap (λ r. r ++ back) f ∙ (ap (λ r. take k all ++ r) b ∙ take-append-drop k all))

-- answers beyond those of the cells don't matter
kept_first : (cells : Row) (answers : List ℕ) → kept_where cells (take (length cells) answers) ≡ kept_where cells answers
kept_first [] answers = refl
kept_first (c ∷ cells) [] = refl
kept_first (c ∷ cells) (a ∷ answers) = ap (λ r. if nat_eq a 0 then r else c ∷ r) (kept_first cells answers)

pub record AreRowsKept (a : Grid) (first end : ℕ) (answers : List ℕ) (start : List Row) (i : ℕ) (left : List ℕ) (ends : List ℕ) (cells : Row) (capacity most : ℕ) : Type 0 where
  pub rows : AreRows a.columns ends cells
  pub none_open : open_row 0 ends cells ≡ []
  pub same : ended_rows 0 ends cells ++ kept_rows a left i (end - i) ≡ start ++ kept_rows a answers first (end - first)
  pub many : length left ≡ length (along (row_of a) i (end - i))
  pub fits : 0 < length left → length cells + kept_count left < capacity
  pub fits_ends : length ends + (end - i) ≤ most

-- cells of one row, of those that are left
pub row_there : (a : Grid) (i end : ℕ) (left : List ℕ) → i < end → length left ≡ length (along (row_of a) i (end - i))
    → length left ≡ length (row_of a i) + length (along (row_of a) (i + 1) (end - (i + 1)))
row_there a i end left l m = m ∙ ap length (along-next (row_of a) i end l) ∙ length-append (row_of a i) (along (row_of a) (i + 1) (end - (i + 1)))

module _ (a : Grid) (first end : ℕ) (answers : List ℕ) (start : List Row) (i : ℕ) (left : List ℕ) (ends : List ℕ) (cells : Row) (capacity most : ℕ)
    (h : AreRowsKept a first end answers start i left ends cells capacity most) (l : i < end) (g : IsGrid a) (row : Row) (is : row ≡ row_of a i)
    (now later : List ℕ) (f : now ≡ take (length row) left) (b : later ≡ drop (length row) left) where
  there : length left ≡ length row + length (along (row_of a) (i + 1) (end - (i + 1)))
  there = row_there a i end left l h.many ∙ ap (λ (r : Row). length r + length (along (row_of a) (i + 1) (end - (i + 1)))) (sym is)

  even : length now ≡ length row
  even = let t = there in ap length f ∙ length-take-le (length row) left (omega (arith, t))

  kept_now : kept_where row now ≡ kept_where (row_of a i) left
  kept_now = ap (kept_where row) f ∙ kept_first row left ∙ ap (λ (r : Row). kept_where r left) is

  counted : kept_count left ≡ kept_count now + kept_count later
  counted = ap kept_count (parts (length row) left now later f b) ∙ kept_count-append now later

  pub row_fits : (length now ≡ length row) × (0 < length now → length cells + kept_count now < capacity)
  row_fits = (even, λ u. let t = there in let e = even in let q = h.fits (omega (arith, t, e, u)) in let m = counted in omega (arith, q, m))

  next : kept_rows a left i (end - i) ≡ kept_where row now ∷ kept_rows a later (i + 1) (end - (i + 1))
  next =
      let e : end - i ≡ suc (end - (i + 1)) = omega (arith, l) in
      let s : suc i ≡ i + 1 = omega arith in
      ap (kept_rows a left i) e
      ∙ ap (λ k. kept_where (row_of a i) left ∷ kept_rows a (drop (length (row_of a i)) left) k (end - (i + 1))) s
      ∙ ap (λ (r : Row). r ∷ kept_rows a (drop (length (row_of a i)) left) (i + 1) (end - (i + 1))) (sym kept_now)
      ∙ ap (λ (r : Row). kept_where row now ∷ kept_rows a (drop (length r) left) (i + 1) (end - (i + 1))) (sym is)
      ∙ ap (λ vs. kept_where row now ∷ kept_rows a vs (i + 1) (end - (i + 1))) (sym b)

  module _ (new : Row) (added : new ≡ cells ++ kept_where row now) (w : AllByRecursion (λ (c : Cell). c.1 < 2 ^ 64) row)
      (n : ℕ) (long : n ≡ length new) (more : List ℕ) (pushed : more ≡ ends ++ n ∷ []) where
    appended : AreRows a.columns ends new
    appended = subst (AreRows a.columns ends) (sym added) (rows_append a.columns ends cells (kept_where row now) h.rows h.none_open
        (ascends_kept 0 a.columns row now (subst (Ascends 0 a.columns) (sym is) (row_of-ascends a i g))) (kept_words row now w))

    run_is : run 0 a.columns more new ≡ record {
      first = 0;
      columns = a.columns;
      ended = ended_rows 0 ends cells ++ (open_row 0 ends cells ++ kept_where row now) ∷ [];
      opened = [];
    }
    run_is = run_end 0 a.columns ends more new n _ appended long pushed (run_append 0 a.columns ends cells new (kept_where row now) (run 0 a.columns ends cells) h.rows added refl)

    ended_is : ended_rows 0 more new ≡ ended_rows 0 ends cells ++ kept_where row now ∷ []
    ended_is = ap (λ (r : Run). r.ended) run_is ∙ ap (λ (r : Row). ended_rows 0 ends cells ++ (r ++ kept_where row now) ∷ []) h.none_open

    pub rows_kept_more : (wide wider : ℕ) → capacity ≤ wide → most ≤ wider → AreRowsKept a first end answers start (i + 1) later more new wide wider
    rows_kept_more wide wider v u = record {
      rows = subst (λ es. AreRows a.columns es new) (sym pushed) (rows_more a.columns ends new n appended long);
      none_open = ap (λ (r : Run). r.opened) run_is;
      same = ap (λ rs. rs ++ kept_rows a later (i + 1) (end - (i + 1))) ended_is
          ∙ append_assoc (ended_rows 0 ends cells) (kept_where row now ∷ []) (kept_rows a later (i + 1) (end - (i + 1)))
          ∙ ap (λ rs. ended_rows 0 ends cells ++ rs) (sym next) ∙ h.same;
      many = let t = there in let d = ap length b in omega (arith, t, d, length-drop (length row) left);
      fits = λ o. let t = there in let d = ap length b in let q = h.fits (omega (arith, t, d, o, length-drop (length row) left)) in let e = ap length added in let s = length-append cells (kept_where row now) in
          let k = length_kept row now even in let m = counted in
          omega (arith, q, e, s, k, m, v);
      fits_ends = let q = h.fits_ends in let e = ap length pushed in let s = length-append ends (n ∷ []) in omega (arith, q, e, s, l, u);
    }
