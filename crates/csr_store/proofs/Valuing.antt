-- Other values of entries of a run, by where they stand among its cells.
use Rattle.std.proofs.Common.{◌≡◌, ◌≤◌, ◌<◌, ◌+◌, ◌-◌, ◌^◌, ℕ, zero, suc, Bool, true, false, nat_lt, ◌⊎◌, inl, inr, if◌then◌else◌, List, [], ◌∷◌, ◌++◌, length, map, take, drop, get_or, set, refl, sym, ap, ◌∙◌, subst, arith, length-append, length-drop, append_assoc, Fits, w64}
use Rattle.std.specs.List.{AllByRecursion}
use Rattle.std.proofs.lemmas.List.{length-take-le, take-append-drop, drop_more, drop_all}
use Rattle.std.proofs.Math.Facts.{Fits-lt-pow}
use Rattle.std.proofs.Math.Seq.{take-append_seam, drop-append_seam}
use Rattle.std.proofs.lemmas.Bool.{cases_lt, lt-ltb, le-ltb}
use Rattle.std.specs.FinMap.{is_sorted}
use Rattle.std.specs.FinMap.Entries.{below_all}
use Rattle.std.specs.Ordering.{nat_cmp}
use Rattle.csr_store.specs.Grid.{Cell}
use Rattle.csr_store.specs.Run.{Run, Row}
use Rattle.csr_store.specs.inner.Run.{IsRow, AreRows, AreEnds, ended_rows, open_row}
use Rattle.csr_store.specs.Valued.{entries_in, entries_of, valued, valued_in, with_value, cells_in, all_cells, valued_from, AreAlike}
use Rattle.csr_store.proofs.Runs.{ends_below, run}

-- ---- one row

pub length-valued : (k v : ℕ) (row : Row) → length (valued k v row) ≡ length row
length-valued k v [] = refl
length-valued zero v (c ∷ row) = refl
length-valued (suc k) v (c ∷ row) = ap suc (length-valued k v row)

below_valued : (x k v : ℕ) (row : Row) → below_all nat_cmp x (valued k v row) ≡ below_all nat_cmp x row
below_valued x k v [] = refl
below_valued x zero v (c ∷ row) = refl
below_valued x (suc k) v (c ∷ row) = rw (below_valued x k v row) refl

sorted_valued : (k v : ℕ) (row : Row) → is_sorted nat_cmp (valued k v row) ≡ is_sorted nat_cmp row
sorted_valued k v [] = refl
sorted_valued zero v (c ∷ row) = refl
sorted_valued (suc k) v (c ∷ row) = rw (below_valued c.0 k v row, sorted_valued k v row) refl

within_valued : (columns k v : ℕ) (row : Row) → v < 2 ^ 64 → AllByRecursion (λ (c : Cell). (c.0 < columns) × (c.1 < 2 ^ 64)) row
    → AllByRecursion (λ (c : Cell). (c.0 < columns) × (c.1 < 2 ^ 64)) (valued k v row)
within_valued columns k v [] w h = tt
within_valued columns zero v (c ∷ row) w h = ((h.0.0, w), h.1)
within_valued columns (suc k) v (c ∷ row) w h = (h.0, within_valued columns k v row w h.1)

row_valued : (columns k v : ℕ) (row : Row) → v < 2 ^ 64 → IsRow columns row → IsRow columns (valued k v row)
row_valued columns k v row w h = record { ascending = sorted_valued k v row ∙ h.ascending; within = within_valued columns k v row w h.within }

rows_valued : (columns k v : ℕ) (rows : List Row) → v < 2 ^ 64 → AllByRecursion (λ r. IsRow columns r) rows → AllByRecursion (λ r. IsRow columns r) (valued_in k v rows)
rows_valued columns k v [] w h = tt
rows_valued columns k v (row ∷ rows) w h = by_place (nat_lt k (length row)) (rows_valued columns (k - length row) v rows w h.1)
  where
    by_place : (b : Bool) → AllByRecursion (λ r. IsRow columns r) (valued_in (k - length row) v rows)
        → AllByRecursion (λ r. IsRow columns r) (if b then valued k v row ∷ rows else row ∷ valued_in (k - length row) v rows)
    by_place true r = (row_valued columns k v row w h.0, h.1)
    by_place false r = (h.0, r)

-- ---- a part of a row

take_before : (m k v : ℕ) (cells : Row) → k < m → take m (valued k v cells) ≡ valued k v (take m cells)
take_before zero k v cells h = elim h [ ]
take_before (suc m) k v [] h = refl
take_before (suc m) zero v (c ∷ cells) h = refl
take_before (suc m) (suc k) v (c ∷ cells) h = ap (λ r. c ∷ r) (take_before m k v cells (omega arith))

take_behind : (m k v : ℕ) (cells : Row) → m ≤ k → take m (valued k v cells) ≡ take m cells
take_behind zero k v cells h = refl
take_behind (suc m) k v [] h = refl
take_behind (suc m) zero v (c ∷ cells) h = elim h [ ]
take_behind (suc m) (suc k) v (c ∷ cells) h = ap (λ r. c ∷ r) (take_behind m k v cells (omega arith))

drop_before : (m k v : ℕ) (cells : Row) → k < m → drop m (valued k v cells) ≡ drop m cells
drop_before zero k v cells h = elim h [ ]
drop_before (suc m) k v [] h = refl
drop_before (suc m) zero v (c ∷ cells) h = refl
drop_before (suc m) (suc k) v (c ∷ cells) h = drop_before m k v cells (omega arith)

drop_behind : (m k v : ℕ) (cells : Row) → m ≤ k → drop m (valued k v cells) ≡ valued (k - m) v (drop m cells)
drop_behind zero k v cells h = let z : k - 0 ≡ k = omega arith in rw z refl
drop_behind (suc m) k v [] h = refl
drop_behind (suc m) zero v (c ∷ cells) h = elim h [ ]
drop_behind (suc m) (suc k) v (c ∷ cells) h = let z : suc k - suc m ≡ k - m = omega arith in rw z (drop_behind m k v cells (omega arith))

-- ---- rows by their ends

ended_valued : (from k v : ℕ) (ends : List ℕ) (cells : Row) → AreEnds from ends (from + length cells)
    → ended_rows from ends (valued k v cells) ≡ valued_in k v (ended_rows from ends cells)
ended_valued from k v [] cells h = refl
ended_valued from k v (to ∷ ends) cells h =
    let b = ends_below to ends _ h.1 in let a = h.0 in
    let l : to - from ≤ length cells = omega arith in
    let e : to + length (drop (to - from) cells) ≡ from + length cells = omega (arith, length-drop (to - from) cells) in
    let rest : (j : ℕ) → ended_rows to ends (valued j v (drop (to - from) cells)) ≡ valued_in j v (ended_rows to ends (drop (to - from) cells))
    = λ j. ended_valued to j v ends (drop (to - from) cells) (rw e h.1) in
    rw (length-take-le (to - from) cells l) (by_place (rest (k - (to - from))) (cases_lt k (to - from)))
  where
    by_place : ended_rows to ends (valued (k - (to - from)) v (drop (to - from) cells)) ≡ valued_in (k - (to - from)) v (ended_rows to ends (drop (to - from) cells))
        → (k < to - from) ⊎ (to - from ≤ k)
        → take (to - from) (valued k v cells) ∷ ended_rows to ends (drop (to - from) (valued k v cells))
        ≡ (if nat_lt k (to - from) then valued k v (take (to - from) cells) ∷ ended_rows to ends (drop (to - from) cells)
        else take (to - from) cells ∷ valued_in (k - (to - from)) v (ended_rows to ends (drop (to - from) cells)))
    by_place e (inl l) = rw (lt-ltb k (to - from) l, take_before (to - from) k v cells l, drop_before (to - from) k v cells l) refl
    by_place e (inr g) = rw (le-ltb k (to - from) g, take_behind (to - from) k v cells g, drop_behind (to - from) k v cells g) (ap (λ r. take (to - from) cells ∷ r) e)

pub entries_ended : (from : ℕ) (ends : List ℕ) (cells : Row) → AreEnds from ends (from + length cells)
    → entries_in (ended_rows from ends cells) + length (open_row from ends cells) ≡ length cells
entries_ended from [] cells h = omega arith
entries_ended from (to ∷ ends) cells h =
    let b = ends_below to ends _ h.1 in let a = h.0 in
    let l : to - from ≤ length cells = omega arith in
    let e : to + length (drop (to - from) cells) ≡ from + length cells = omega (arith, length-drop (to - from) cells) in
    let r = entries_ended to ends (drop (to - from) cells) (rw e h.1) in
    let t = length-take-le (to - from) cells l in
    omega (arith, r, t, length-drop (to - from) cells)

open_valued : (from k v : ℕ) (ends : List ℕ) (cells : Row) → AreEnds from ends (from + length cells)
    → open_row from ends (valued k v cells) ≡ (if nat_lt k (entries_in (ended_rows from ends cells)) then open_row from ends cells
    else valued (k - entries_in (ended_rows from ends cells)) v (open_row from ends cells))
open_valued from k v [] cells h = let z : k - 0 ≡ k = omega arith in rw (le-ltb k 0 (omega arith), z) refl
open_valued from k v (to ∷ ends) cells h =
    let b = ends_below to ends _ h.1 in let a = h.0 in
    let l : to - from ≤ length cells = omega arith in
    let e : to + length (drop (to - from) cells) ≡ from + length cells = omega (arith, length-drop (to - from) cells) in
    rw (length-take-le (to - from) cells l)
    (by_place (to - from) (ended_rows to ends (drop (to - from) cells)) (λ j. open_valued to j v ends (drop (to - from) cells) (rw e h.1)) (cases_lt k (to - from)))
  where
    by_rest : (m n : ℕ) (opened : Row) → m ≤ k → (k - m < n) ⊎ (n ≤ k - m)
        → (if nat_lt (k - m) n then opened else valued (k - m - n) v opened) ≡ (if nat_lt k (m + n) then opened else valued (k - (m + n)) v opened)
    by_rest m n opened g (inl l) = rw (lt-ltb (k - m) n l, lt-ltb k (m + n) (omega arith)) refl
    by_rest m n opened g (inr l) = let z : k - m - n ≡ k - (m + n) = omega arith in rw (le-ltb (k - m) n l, le-ltb k (m + n) (omega arith), z) refl

    by_place : (m : ℕ) (rows : List Row)
        → ((j : ℕ) → open_row to ends (valued j v (drop m cells))
        ≡ (if nat_lt j (entries_in rows) then open_row to ends (drop m cells) else valued (j - entries_in rows) v (open_row to ends (drop m cells))))
        → (k < m) ⊎ (m ≤ k)
        → open_row to ends (drop m (valued k v cells))
        ≡ (if nat_lt k (m + entries_in rows) then open_row to ends (drop m cells) else valued (k - (m + entries_in rows)) v (open_row to ends (drop m cells)))
    by_place m rows f (inl l) = let t : k < m + entries_in rows = omega arith in rw (lt-ltb k (m + entries_in rows) t, drop_before m k v cells l) refl
    by_place m rows f (inr g) = rw (drop_behind m k v cells g) (f (k - m) ∙ by_rest m (entries_in rows) (open_row to ends (drop m cells)) g (cases_lt (k - m) (entries_in rows)))

pub rows_with_value : (columns k v : ℕ) (ends : List ℕ) (cells : Row) → v < 2 ^ 64 → AreRows columns ends cells → AreRows columns ends (valued k v cells)
rows_with_value columns k v ends cells w h =
    let z : length cells ≡ 0 + length cells = omega arith in
    let r : AreEnds 0 ends (0 + length cells) = rw z at h.ends_rise in
    record {
      ends_rise = rw (length-valued k v cells) h.ends_rise;
      ended_are = rw (ended_valued 0 k v ends cells r) (rows_valued columns k v (ended_rows 0 ends cells) w h.ended_are);
      open_is = rw (open_valued 0 k v ends cells r) (by_place (nat_lt k (entries_in (ended_rows 0 ends cells))));
    }
  where
    by_place : (b : Bool) → IsRow columns (if b then open_row 0 ends cells else valued (k - entries_in (ended_rows 0 ends cells)) v (open_row 0 ends cells))
    by_place true = h.open_is
    by_place false = row_valued columns (k - entries_in (ended_rows 0 ends cells)) v (open_row 0 ends cells) w h.open_is

pub run_with_value : (first columns k v : ℕ) (ends : List ℕ) (cells now : Row) (r : Run) → AreRows columns ends cells → now ≡ valued k v cells → run first columns ends cells ≡ r
    → run first columns ends now ≡ with_value k v r
run_with_value first columns k v ends cells now r h m e =
    let z : length cells ≡ 0 + length cells = omega arith in
    let q : AreEnds 0 ends (0 + length cells) = rw z at h.ends_rise in
    ap (run first columns ends) m ∙ (rw (ended_valued 0 k v ends cells q, open_valued 0 k v ends cells q) refl ∙ ap (with_value k v) e)

pub set_is_valued : (k x v : ℕ) (cells : Row) (d : Cell) → k < length cells → x ≡ (get_or cells k d).0 → set cells k (x, v) ≡ valued k v cells
set_is_valued zero x v [] d h e = elim h [ ]
set_is_valued (suc k) x v [] d h e = elim h [ ]
set_is_valued zero x v (c ∷ cells) d h e = ap (λ y. (y, v) ∷ cells) e
set_is_valued (suc k) x v (c ∷ cells) d h e = ap (λ r. c ∷ r) (set_is_valued k x v cells d (omega arith) e)

pub entries_in_run : (first columns : ℕ) (ends : List ℕ) (cells : Row) → AreRows columns ends cells → entries_of (run first columns ends cells) ≡ length cells
entries_in_run first columns ends cells h =
    let z : length cells ≡ 0 + length cells = omega arith in
    let q : AreEnds 0 ends (0 + length cells) = rw z at h.ends_rise in
    entries_ended 0 ends cells q

pub entry_inside : (first columns k : ℕ) (ends : List ℕ) (cells : Row) (r : Run) → AreRows columns ends cells → run first columns ends cells ≡ r → k < entries_of r → k < length cells
entry_inside first columns k ends cells r h e l =
    let n = entries_in_run first columns ends cells h in
    let m = ap entries_of e in
    omega (arith, n, m, l)

-- ---- entries row after row

pub cells_ended : (from : ℕ) (ends : List ℕ) (cells : Row) → AreEnds from ends (from + length cells)
    → cells_in (ended_rows from ends cells) ++ open_row from ends cells ≡ cells
cells_ended from [] cells h = refl
cells_ended from (to ∷ ends) cells h =
    let b = ends_below to ends _ h.1 in let a = h.0 in
    let l : to - from ≤ length cells = omega arith in
    let e : to + length (drop (to - from) cells) ≡ from + length cells = omega (arith, length-drop (to - from) cells) in
    append_assoc (take (to - from) cells) (cells_in (ended_rows to ends (drop (to - from) cells))) (open_row to ends (drop (to - from) cells))
    ∙ ap (λ (r : Row). take (to - from) cells ++ r) (cells_ended to ends (drop (to - from) cells) (rw e h.1))
    ∙ take-append-drop (to - from) cells

pub cells_in_run : (first columns : ℕ) (ends : List ℕ) (cells : Row) → AreRows columns ends cells → all_cells (run first columns ends cells) ≡ cells
cells_in_run first columns ends cells h =
    let z : length cells ≡ 0 + length cells = omega arith in
    let q : AreEnds 0 ends (0 + length cells) = rw z at h.ends_rise in
    cells_ended 0 ends cells q

valued_append : (k v : ℕ) (xs ys : Row) → valued k v (xs ++ ys) ≡ (if nat_lt k (length xs) then valued k v xs ++ ys else xs ++ valued (k - length xs) v ys)
valued_append k v [] ys = let z : k - 0 ≡ k = omega arith in rw (le-ltb k 0 (omega arith), z) refl
valued_append zero v (c ∷ xs) ys = rw (lt-ltb 0 (suc (length xs)) (omega arith)) refl
valued_append (suc k) v (c ∷ xs) ys = ap (λ (r : Row). c ∷ r) (valued_append k v xs ys) ∙ by_place (cases_lt k (length xs))
  where
    by_place : (k < length xs) ⊎ (length xs ≤ k)
        → c ∷ (if nat_lt k (length xs) then valued k v xs ++ ys else xs ++ valued (k - length xs) v ys)
        ≡ (if nat_lt (suc k) (suc (length xs)) then c ∷ (valued k v xs ++ ys) else c ∷ (xs ++ valued (suc k - suc (length xs)) v ys))
    by_place (inl l) = rw (lt-ltb k (length xs) l, lt-ltb (suc k) (suc (length xs)) (omega arith)) refl
    by_place (inr g) = let z : suc k - suc (length xs) ≡ k - length xs = omega arith in rw (le-ltb k (length xs) g, le-ltb (suc k) (suc (length xs)) (omega arith), z) refl

lengths_valued : (k v : ℕ) (rows : List Row) → map (λ (r : Row). length r) (valued_in k v rows) ≡ map (λ (r : Row). length r) rows
lengths_valued k v [] = refl
lengths_valued k v (row ∷ rows) = by_place (nat_lt k (length row)) (lengths_valued (k - length row) v rows)
  where
    by_place : (b : Bool) → map (λ (r : Row). length r) (valued_in (k - length row) v rows) ≡ map (λ (r : Row). length r) rows
        → map (λ (r : Row). length r) (if b then valued k v row ∷ rows else row ∷ valued_in (k - length row) v rows) ≡ length row ∷ map (λ (r : Row). length r) rows
    by_place true e = ap (λ n. n ∷ map (λ (r : Row). length r) rows) (length-valued k v row)
    by_place false e = ap (λ ns. length row ∷ ns) e

pub with_value_alike : (k v : ℕ) (r : Run) → AreAlike r (with_value k v r)
with_value_alike k v r = record { first = refl; columns = refl; ended = sym (lengths_valued k v r.ended); opened = by_place (nat_lt k (entries_in r.ended)) }
  where
    by_place : (b : Bool) → length r.opened ≡ length (if b then r.opened else valued (k - entries_in r.ended) v r.opened)
    by_place true = refl
    by_place false = sym (length-valued (k - entries_in r.ended) v r.opened)

pub alike_then : (r s t : Run) → AreAlike r s → AreAlike s t → AreAlike r t
alike_then r s t h m = record { first = h.first ∙ m.first; columns = h.columns ∙ m.columns; ended = h.ended ∙ m.ended; opened = h.opened ∙ m.opened }

length-cells_in : (rows : List Row) → entries_in rows ≡ length (cells_in rows)
length-cells_in [] = refl
length-cells_in (row ∷ rows) = let r = length-cells_in rows in omega (arith, r, length-append row (cells_in rows))

pub entries_are : (r : Run) → entries_of r ≡ length (all_cells r)
entries_are r = let n = length-cells_in r.ended in omega (arith, n, length-append (cells_in r.ended) r.opened)

-- some of the values are given, and the others are to come
pub record AreSet (from : ℕ) (values : List ℕ) (start : Row) (at next : ℕ) (now : Row) : Type 0 where
  pub nth : next ≡ from + at
  pub cells : valued_from next (drop at values) now ≡ valued_from from values start
  pub count : length now ≡ length start

pub set_none : (from : ℕ) (values : List ℕ) (start : Row) → AreSet from values start 0 from start
set_none from values start = record { nth = omega arith; cells = refl; count = refl }

pub set_more : (from : ℕ) (values : List ℕ) (start : Row) (at entry : ℕ) (now more : Row) (v : ℕ) → AreSet from values start at entry now → at < length values
    → v ≡ get_or values at 0 → more ≡ valued entry v now → AreSet from values start (at + 1) (entry + 1) more
set_more from values start at entry now more v h l e t =
    let d : drop at values ≡ v ∷ drop (at + 1) values = drop_more values at 0 l ∙ ap (λ x. x ∷ drop (at + 1) values) (sym e) in
    let n : suc entry ≡ entry + 1 = omega arith in
    record {
      nth = let p = h.nth in omega (arith, p);
      cells = ap (valued_from (entry + 1) (drop (at + 1) values)) t
          ∙ (ap (λ k. valued_from k (drop (at + 1) values) (valued entry v now)) (sym n)
          ∙ (ap (λ vs. valued_from entry vs now) (sym d) ∙ h.cells));
      count = ap length t ∙ (length-valued entry v now ∙ h.count);
    }

pub set_all : (from : ℕ) (values : List ℕ) (start : Row) (at entry : ℕ) (now : Row) → AreSet from values start at entry now → length values ≤ at
    → now ≡ valued_from from values start
set_all from values start at entry now h l = ap (λ vs. valued_from entry vs now) (sym (drop_all at values l)) ∙ h.cells

pub words_fit : (vs : List ℕ) → ((i : ℕ) → Fits w64 (get_or vs i 0)) → AllByRecursion (λ v. v < 2 ^ 64) vs
words_fit [] h = tt
words_fit (v ∷ vs) h = (Fits-lt-pow (h 0), words_fit vs (λ i. h (suc i)))

pub rows_with_values : (columns k : ℕ) (vs ends : List ℕ) (cells : Row) → AllByRecursion (λ v. v < 2 ^ 64) vs → AreRows columns ends cells
    → AreRows columns ends (valued_from k vs cells)
rows_with_values columns k [] ends cells w h = h
rows_with_values columns k (v ∷ vs) ends cells w h = rows_with_values columns (suc k) vs ends (valued k v cells) w.1 (rows_with_value columns k v ends cells w.0 h)

pub run_with_values : (first columns k : ℕ) (vs ends : List ℕ) (cells : Row) → AllByRecursion (λ v. v < 2 ^ 64) vs → AreRows columns ends cells
    → AreAlike (run first columns ends cells) (run first columns ends (valued_from k vs cells))
run_with_values first columns k [] ends cells w h = record { first = refl; columns = refl; ended = refl; opened = refl }
run_with_values first columns k (v ∷ vs) ends cells w h =
    let one : AreAlike (run first columns ends cells) (run first columns ends (valued k v cells))
    = subst (AreAlike (run first columns ends cells)) (sym (run_with_value first columns k v ends cells (valued k v cells) (run first columns ends cells) h refl refl))
    (with_value_alike k v (run first columns ends cells)) in
    alike_then (run first columns ends cells) (run first columns ends (valued k v cells)) (run first columns ends (valued_from (suc k) vs (valued k v cells))) one
    (run_with_values first columns (suc k) vs ends (valued k v cells) w.1 (rows_with_value columns k v ends cells w.0 h))

-- ---- runs of the same rows

lengths_entries : (rows others : List Row) → map (λ (r : Row). length r) rows ≡ map (λ (r : Row). length r) others → entries_in rows ≡ entries_in others
lengths_entries [] [] e = refl
lengths_entries [] (s ∷ others) e = absurd (cc)
lengths_entries (r ∷ rows) [] e = absurd (cc)
lengths_entries (r ∷ rows) (s ∷ others) e =
    let h : length r ≡ length s = cc in
    let t : map (λ (x : Row). length x) rows ≡ map (λ (x : Row). length x) others = cc in
    let n = lengths_entries rows others t in
    omega (arith, h, n)

pub alike_entries : (r s : Run) → AreAlike r s → entries_of r ≡ entries_of s
alike_entries r s h = let e = lengths_entries r.ended s.ended h.ended in let o = h.opened in omega (arith, e, o)

pub alike_same : (r : Run) → AreAlike r r
alike_same r = record { first = refl; columns = refl; ended = refl; opened = refl }

same_cells : (rows others : List Row) (x y : Row) → map (λ (r : Row). length r) rows ≡ map (λ (r : Row). length r) others → cells_in rows ++ x ≡ cells_in others ++ y
    → (rows ≡ others) × (x ≡ y)
same_cells [] [] x y e c = (refl, c)
same_cells [] (s ∷ others) x y e c = absurd (cc)
same_cells (r ∷ rows) [] x y e c = absurd (cc)
same_cells (r ∷ rows) (s ∷ others) x y e c =
    let h : length r ≡ length s = cc in
    let t : map (λ (x : Row). length x) rows ≡ map (λ (x : Row). length x) others = cc in
    let all : r ++ (cells_in rows ++ x) ≡ s ++ (cells_in others ++ y) = sym (append_assoc r (cells_in rows) x) ∙ (c ∙ append_assoc s (cells_in others) y) in
    let one : r ≡ s = sym (take-append_seam r (cells_in rows ++ x)) ∙ (ap (λ n. take n (r ++ (cells_in rows ++ x))) h ∙ (ap (take (length s)) all ∙ take-append_seam s (cells_in others ++ y))) in
    let rest : cells_in rows ++ x ≡ cells_in others ++ y =
    sym (drop-append_seam r (cells_in rows ++ x)) ∙ (ap (λ n. drop n (r ++ (cells_in rows ++ x))) h ∙ (ap (drop (length s)) all ∙ drop-append_seam s (cells_in others ++ y))) in
    let more = same_cells rows others x y t rest in
    (ap (λ q. q ∷ rows) one ∙ ap (λ qs. s ∷ qs) more.0, more.1)

-- the same rows with the same entries are the same run
pub alike_equal : (r s : Run) → AreAlike r s → all_cells r ≡ all_cells s → r ≡ s
alike_equal r s h c =
    let e = same_cells r.ended s.ended r.opened s.opened h.ended c in
    ap (λ n. record { first = n; columns = r.columns; ended = r.ended; opened = r.opened }) h.first
    ∙ (ap (λ n. record { first = s.first; columns = n; ended = r.ended; opened = r.opened }) h.columns
    ∙ (ap (λ rs. record { first = s.first; columns = s.columns; ended = rs; opened = r.opened }) e.0
    ∙ ap (λ o. record { first = s.first; columns = s.columns; ended = s.ended; opened = o }) e.1))

-- entries behind those that get values
pub valued_behind : (k n : ℕ) (vs : List ℕ) (cells : Row) → k + length vs ≤ n → drop n (valued_from k vs cells) ≡ drop n cells
valued_behind k n [] cells h = refl
valued_behind k n (v ∷ vs) cells h = valued_behind (suc k) n vs (valued k v cells) (omega arith) ∙ drop_before n k v cells (omega arith)

pub length-valued_from : (k : ℕ) (vs : List ℕ) (cells : Row) → length (valued_from k vs cells) ≡ length cells
length-valued_from k [] cells = refl
length-valued_from k (v ∷ vs) cells = length-valued_from (suc k) vs (valued k v cells) ∙ length-valued k v cells

-- ---- entries at the end

pub valued_here : (v : ℕ) (pre : Row) (c : Cell) (cs : Row) → valued (length pre) v (pre ++ c ∷ cs) ≡ pre ++ (c.0, v) ∷ cs
valued_here v [] c cs = refl
valued_here v (p ∷ pre) c cs = ap (λ (r : Row). p ∷ r) (valued_here v pre c cs)

-- values of the first entries alone
pub valued_front : (k : ℕ) (vs : List ℕ) (xs ys : Row) → k + length vs ≤ length xs → valued_from k vs (xs ++ ys) ≡ valued_from k vs xs ++ ys
valued_front k [] xs ys h = refl
valued_front k (v ∷ vs) xs ys h =
    let one : valued k v (xs ++ ys) ≡ valued k v xs ++ ys = valued_append k v xs ys ∙ rw (lt-ltb k (length xs) (omega arith)) refl in
    ap (valued_from (suc k) vs) one ∙ valued_front (suc k) vs (valued k v xs) ys (omega (arith, h, length-valued k v xs))
