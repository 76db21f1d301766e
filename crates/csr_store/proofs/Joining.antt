-- Runs of rows, one behind another.
use Rattle.std.proofs.Common.{zero, suc, ◌≡◌, ◌≤◌, ◌<◌, ◌+◌, ◌-◌, ◌^◌, ℕ, Bool, true, cond, ◌&&◌, List, [], ◌∷◌, ◌++◌, Option, None, Some, IsSome, map, length, take, drop, get_or, refl, sym, ap, ◌∙◌, subst, arith, length-append, append_assoc, append-nil, length-drop}
use Rattle.std.proofs.lemmas.List.{take-append-le, drop-append-le, take_more}
use Rattle.std.proofs.lemmas.Bool.{lt-ltb}
use Rattle.std.proofs.lemmas.Bool.Decides.{nat_tests}
use Rattle.std.specs.List.{AllByRecursion}
use Rattle.std.specs.declared.cmp.Ordering.{Ordering}
use Rattle.std.specs.declared.cmp.Ordering.TheVariants.{Less, Equal, Greater}
use Rattle.std.specs.Ordering.{nat_cmp, is_lt, is_eq, ordering_then}
use Rattle.std.specs.FinMap.{is_sorted, from_entries, get, get-from_entries, len, len-entries}
use Rattle.std.specs.FinMap.Entries.{below_all, find}
use Rattle.csr_store.specs.Grid.{IsGrid, Position, Cell, Entry, pos_cmp, limit, at_row}
use Rattle.csr_store.specs.ByRows.{grid, by_rows, entries_from, ends_of}
use Rattle.csr_store.specs.inner.ByRows.{Within, AreStarts}
use Rattle.csr_store.specs.Run.{Run, Row, numbered, all_ended, Follow}
use Rattle.csr_store.specs.inner.Run.{IsRow, ended_rows, open_row, AreEnds, AreClosed}
use Rattle.csr_store.proofs.Order.{pos_total, pos_exact, both_true}
use Rattle.csr_store.proofs.Laws.{entries-from_entries}
use Rattle.csr_store.proofs.Runs.{length-ended, ends_below}

-- ---- the order of the entries

both_is : (a b : Bool) → a ≡ true → b ≡ true → (a && b) ≡ true
both_is a b e f = rw (e, f) refl

less_row : (i j : ℕ) (o : Ordering) → i < j → is_lt (ordering_then (nat_cmp i j) o) ≡ true
less_row i j o h = rw (lt-ltb i j h) refl

below_rest : (p : Position) (i : ℕ) (cs : Row) (rest : List Entry) → p.0 < i → below_all pos_cmp p rest ≡ true → below_all pos_cmp p (at_row i cs ++ rest) ≡ true
below_rest p i [] rest h b = b
below_rest p i (c ∷ cs) rest h b = both_is _ _ (less_row p.0 i (nat_cmp p.1 c.0) h) (below_rest p i cs rest h b)

-- all entries of later rows are above
below_rows : (p : Position) (i : ℕ) (rows : List Row) → p.0 < i → below_all pos_cmp p (numbered i rows) ≡ true
below_rows p i [] h = refl
below_rows p i (r ∷ rows) h = below_rest p i r (numbered (i + 1) rows) h (below_rows p (i + 1) rows (omega arith))

nat_same : (i : ℕ) → nat_cmp i i ≡ Equal
nat_same i = grind (arith, nat_tests)

same_row : (i : ℕ) (o : Ordering) → ordering_then (nat_cmp i i) o ≡ o
same_row i o = ap (λ r. ordering_then r o) (nat_same i)

below_here : (i x : ℕ) (cs : Row) (rest : List Entry) → below_all nat_cmp x cs ≡ true → below_all pos_cmp (i, x) rest ≡ true → below_all pos_cmp (i, x) (at_row i cs ++ rest) ≡ true
below_here i x [] rest h b = b
below_here i x (c ∷ cs) rest h b = let k = both_true (is_lt (nat_cmp x c.0)) (below_all nat_cmp x cs) h in both_is _ _ (ap is_lt (same_row i (nat_cmp x c.0)) ∙ k.0) (below_here i x cs rest k.1 b)

row_then : (i : ℕ) (cs : Row) (rows : List Row) → is_sorted nat_cmp cs ≡ true → is_sorted pos_cmp (numbered (i + 1) rows) ≡ true → is_sorted pos_cmp (at_row i cs ++ numbered (i + 1) rows) ≡ true
row_then i [] rows h s = s
row_then i (c ∷ cs) rows h s =
    let k = both_true (below_all nat_cmp c.0 cs) (is_sorted nat_cmp cs) h in
    both_is _ _ (below_here i c.0 cs (numbered (i + 1) rows) k.0 (below_rows (i, c.0) (i + 1) rows (omega arith))) (row_then i cs rows k.1 s)

-- rows that follow one another make sorted entries
pub sorted_rows : (columns i : ℕ) (rows : List Row) → AllByRecursion (λ r. IsRow columns r) rows → is_sorted pos_cmp (numbered i rows) ≡ true
sorted_rows columns i [] h = refl
sorted_rows columns i (r ∷ rows) h = row_then i r rows h.0.ascending (sorted_rows columns (i + 1) rows h.1)

-- ---- rows behind rows

shift_rows : (n from : ℕ) (ends : List ℕ) (cs : Row) → ended_rows (n + from) (map (λ e. n + e) ends) cs ≡ ended_rows from ends cs
shift_rows n from [] cs = refl
shift_rows n from (to ∷ ends) cs =
    let e : n + to - (n + from) ≡ to - from = omega arith in
    rw e (ap (λ (rs : List Row). take (to - from) cs ∷ rs) (shift_rows n to ends (drop (to - from) cs)))

shift_open : (n from : ℕ) (ends : List ℕ) (cs : Row) → open_row (n + from) (map (λ e. n + e) ends) cs ≡ open_row from ends cs
shift_open n from [] cs = refl
shift_open n from (to ∷ ends) cs =
    ap (λ k. open_row (n + to) (map (λ e. n + e) ends) (drop k cs)) (let e : n + to - (n + from) ≡ to - from = omega arith in e) ∙ shift_open n to ends (drop (to - from) cs)

shift_ends : (n from most : ℕ) (ends : List ℕ) → AreEnds from ends most → AreEnds (n + from) (map (λ e. n + e) ends) (n + most)
shift_ends n from most [] h = omega arith
shift_ends n from most (to ∷ ends) h = ((let a = h.0 in omega arith), shift_ends n to most ends h.1)

pub inner_ends : (from to : ℕ) (ends : List ℕ) (cs : Row) → from ≤ to → AreEnds to ends (from + length cs) → AreEnds to ends (to + length (drop (to - from) cs))
inner_ends from to ends cs a h =
    let b = ends_below to ends (from + length cs) h in
    subst (λ (n : ℕ). AreEnds to ends n) (omega (arith, length-drop (to - from) cs)) h

pub inner_end : (from to : ℕ) (ends : List ℕ) (cs : Row) → from ≤ to → AreEnds to ends (from + length cs) → to + length (drop (to - from) cs) ≡ from + length cs
inner_end from to ends cs a h = let b = ends_below to ends (from + length cs) h in omega (arith, length-drop (to - from) cs)

pub rows_append : (from : ℕ) (ends more : List ℕ) (cs ds : Row) → AreEnds from ends (from + length cs) → open_row from ends cs ≡ [] → ended_rows from (ends ++ more) (cs ++ ds) ≡ ended_rows from ends cs ++ ended_rows (from + length cs) more ds
rows_append from [] more cs ds w h = rw h (ap (λ n. ended_rows n more ds) (let q : from ≡ from + 0 = omega arith in q))
rows_append from (to ∷ ends) more cs ds w h =
    let b = ends_below to ends (from + length cs) w.1 in let a = w.0 in
    let l : to - from ≤ length cs = omega arith in
    ap (λ (r : Row). r ∷ ended_rows to (ends ++ more) (drop (to - from) (cs ++ ds))) (take-append-le (to - from) cs ds l)
    ∙ ap (λ (rs : List Row). take (to - from) cs ∷ rs)
    (ap (ended_rows to (ends ++ more)) (drop-append-le (to - from) cs ds l)
    ∙ (rows_append to ends more (drop (to - from) cs) ds (inner_ends from to ends cs a w.1) h
    ∙ ap (λ n. ended_rows to ends (drop (to - from) cs) ++ ended_rows n more ds) (inner_end from to ends cs a w.1)))

open_append : (from : ℕ) (ends more : List ℕ) (cs ds : Row) → AreEnds from ends (from + length cs) → open_row from ends cs ≡ [] → open_row from (ends ++ more) (cs ++ ds) ≡ open_row (from + length cs) more ds
open_append from [] more cs ds w h = rw h (ap (λ n. open_row n more ds) (let q : from ≡ from + 0 = omega arith in q))
open_append from (to ∷ ends) more cs ds w h =
    let b = ends_below to ends (from + length cs) w.1 in let a = w.0 in
    ap (open_row to (ends ++ more)) (drop-append-le (to - from) cs ds (omega arith))
    ∙ (open_append to ends more (drop (to - from) cs) ds (inner_ends from to ends cs a w.1) h
    ∙ ap (λ n. open_row n more ds) (inner_end from to ends cs a w.1))

ends_from : (from mid most : ℕ) (more : List ℕ) → from ≤ mid → AreEnds mid more most → AreEnds from more most
ends_from from mid most [] l h = omega arith
ends_from from mid most (to ∷ more) l h = ((let a = h.0 in omega arith), h.1)

ends_append : (from mid most : ℕ) (ends more : List ℕ) → AreEnds from ends mid → AreEnds mid more most → AreEnds from (ends ++ more) most
ends_append from mid most [] more h k = ends_from from mid most more h k
ends_append from mid most (to ∷ ends) more h k = (h.0, ends_append to mid most ends more h.1 k)

module _ (starts new ends : List ℕ) (cells all part : Row) (h : AreClosed starts cells) (rise : AreEnds 0 ends (length part)) (none : open_row 0 ends part ≡ []) (s : new ≡ starts ++ map (λ e. length cells + e) ends) (c : all ≡ cells ++ part) where
  begins : new ≡ 0 ∷ (ends_of starts ++ map (λ e. length cells + e) ends)
  begins = s ∙ ap (λ (xs : List ℕ). xs ++ map (λ e. length cells + e) ends) h.begin

  new_ends : ends_of new ≡ ends_of starts ++ map (λ e. length cells + e) ends
  new_ends = ap ends_of begins

  zero_first : (n : ℕ) → n + 0 ≡ n
  zero_first n = omega arith

  zero_then : (n : ℕ) → n ≡ 0 + n
  zero_then n = omega arith

  here : AreEnds 0 (ends_of starts) (0 + length cells)
  here = subst (λ (n : ℕ). AreEnds 0 (ends_of starts) n) (zero_then (length cells)) h.rise

  there : AreEnds (length cells) (map (λ e. length cells + e) ends) (length cells + length part)
  there = subst (λ (n : ℕ). AreEnds n (map (λ e. length cells + e) ends) (length cells + length part)) (zero_first (length cells)) (shift_ends (length cells) 0 (length part) ends rise)

  later : 0 + length cells ≡ length cells + 0
  later = omega arith

  pub joined_rows : ended_rows 0 (ends_of new) all ≡ ended_rows 0 (ends_of starts) cells ++ ended_rows 0 ends part
  joined_rows =
      ap (λ (es : List ℕ). ended_rows 0 es all) new_ends ∙ ap (ended_rows 0 (ends_of starts ++ map (λ e. length cells + e) ends)) c
      ∙ rows_append 0 (ends_of starts) (map (λ e. length cells + e) ends) cells part here h.none_open
      ∙ ap (λ (rs : List Row). ended_rows 0 (ends_of starts) cells ++ rs) (ap (λ n. ended_rows n (map (λ e. length cells + e) ends) part) later ∙ shift_rows (length cells) 0 ends part)

  pub joined_closed_rows : AreClosed new all
  joined_closed_rows =
      record {
        begin = begins ∙ ap (λ (es : List ℕ). 0 ∷ es) (sym new_ends);
        rise = rw (new_ends, c, length-append cells part) (ends_append 0 (length cells) (length cells + length part) (ends_of starts) (map (λ e. length cells + e) ends) h.rise there);
        none_open =
            ap (λ (es : List ℕ). open_row 0 es all) new_ends ∙ ap (open_row 0 (ends_of starts ++ map (λ e. length cells + e) ends)) c
            ∙ open_append 0 (ends_of starts) (map (λ e. length cells + e) ends) cells part here h.none_open
            ∙ ap (λ n. open_row n (map (λ e. length cells + e) ends) part) later ∙ shift_open (length cells) 0 ends part ∙ none;
      }

-- no end is beyond the cells
pub ends_fit : (base from most : ℕ) (ends : List ℕ) → AreEnds from ends most → base + most < 2 ^ 64 → AllByRecursion (λ e. base + e < 2 ^ 64) ends
ends_fit base from most [] h l = tt
ends_fit base from most (to ∷ ends) h l = ((let b = ends_below to ends most h.1 in omega arith), ends_fit base to most ends h.1 l)

-- ---- the whole

entries_parts : (i from : ℕ) (ends : List ℕ) (cs : Row) → entries_from i from ends cs ≡ numbered i (ended_rows from ends cs) ++ at_row (i + length ends) (open_row from ends cs)
entries_parts i from [] cs = ap (λ n. at_row n cs) (let q : i ≡ i + 0 = omega arith in q)
entries_parts i from (to ∷ ends) cs =
    ap (λ (es : List Entry). at_row i (take (to - from) cs) ++ es)
    (entries_parts (i + 1) to ends (drop (to - from) cs) ∙ ap (λ n. numbered (i + 1) (ended_rows to ends (drop (to - from) cs)) ++ at_row n (open_row to ends (drop (to - from) cs))) (let q : i + 1 + length ends ≡ i + suc (length ends) = omega arith in q))
    ∙ sym (append_assoc (at_row i (take (to - from) cs)) (numbered (i + 1) (ended_rows to ends (drop (to - from) cs))) _)

pub entries_closed : (ends : List ℕ) (cs : Row) → open_row 0 ends cs ≡ [] → by_rows ends cs ≡ numbered 0 (ended_rows 0 ends cs)
entries_closed ends cs h =
    entries_parts 0 0 ends cs ∙ ap (λ (row : Row). numbered 0 (ended_rows 0 ends cs) ++ at_row (0 + length ends) row) h ∙ append-nil (numbered 0 (ended_rows 0 ends cs))

pub within_of : (from n : ℕ) (ends : List ℕ) → AreEnds from ends (from + n) → Within from ends n
within_of from n [] h = tt
within_of from n (to ∷ ends) h =
    let b = ends_below to ends (from + n) h.1 in let a = h.0 in
    (a, (b, within_of to (n - (to - from)) ends (subst (λ (m : ℕ). AreEnds to ends m) (let q : from + n ≡ to + (n - (to - from)) = omega arith in q) h.1)))

follow_length : (columns at to : ℕ) (runs : List Run) → Follow columns at to runs → at + length (all_ended runs) ≡ to
follow_length columns at to [] h = (let q : at + 0 ≡ at = omega arith in q) ∙ h
follow_length columns at to (r ∷ rs) h =
    let k = follow_length columns (at + length r.ended) to rs h.3 in
    omega (arith, length-append r.ended (all_ended rs))

pub follow_count : (columns to : ℕ) (runs : List Run) → Follow columns 0 to runs → length (all_ended runs) ≡ to
follow_count columns to runs h = let n = follow_length columns 0 to runs h in omega (arith, n)

-- what holds of each entry of rows
pub record IsPlaced (from to columns : ℕ) (e : Entry) : Type 0 where
  pub low : from ≤ e.0.0
  pub row : e.0.0 < to
  pub column : e.0.1 < columns
  pub word : e.1 < 2 ^ 64

placed_row : (i to columns : ℕ) (row : Row) (rest : List Entry) → i < to → AllByRecursion (λ (c : Cell). (c.0 < columns) × (c.1 < 2 ^ 64)) row → AllByRecursion (IsPlaced i to columns) rest → AllByRecursion (IsPlaced i to columns) (at_row i row ++ rest)
placed_row i to columns [] rest l h r = r
placed_row i to columns (c ∷ row) rest l h r = (record { low = omega arith; row = l; column = h.0.0; word = h.0.1 }, placed_row i to columns row rest l h.1 r)

placed_lower : (i j to columns : ℕ) (es : List Entry) → i ≤ j → AllByRecursion (IsPlaced j to columns) es → AllByRecursion (IsPlaced i to columns) es
placed_lower i j to columns [] l h = tt
placed_lower i j to columns (e ∷ es) l h = (record { low = (let a = h.0.low in omega arith); row = h.0.row; column = h.0.column; word = h.0.word }, placed_lower i j to columns es l h.1)

placed_rows : (i to columns : ℕ) (rows : List Row) → i + length rows ≤ to → AllByRecursion (λ r. IsRow columns r) rows → AllByRecursion (IsPlaced i to columns) (numbered i rows)
placed_rows i to columns [] l h = tt
placed_rows i to columns (r ∷ rows) l h =
    placed_row i to columns r (numbered (i + 1) rows) (omega arith) h.0.within (placed_lower i (i + 1) to columns (numbered (i + 1) rows) (omega arith) (placed_rows (i + 1) to columns rows (omega arith) h.1))

same_pair : (a b : Position) (m n : ℕ) → a ≡ b → m ≡ n → (let e : Entry = (a, m) in e) ≡ (b, n)
same_pair a b m n p q = cc

same_some : (m n : ℕ) → Some m ≡ Some n → m ≡ n
same_some m n e = cc

pub found_holds : (P : Entry → Type 0) (es : List Entry) (p : Position) (v : ℕ) → AllByRecursion P es → find pos_cmp p es ≡ Some v → P (p, v)
found_holds P [] p v h f = absurd (cc)
found_holds P (e ∷ es) p v h f =
    elim (pos_cmp p e.0) as (λ o. pos_cmp p e.0 ≡ o → cond (is_eq o) (Some e.1) (find pos_cmp p es) ≡ Some v → P (p, v)) [
      | Equal ↦ λ o g. subst P (same_pair e.0 p e.1 v (sym (pos_exact p e.0 o)) (same_some e.1 v g)) h.0
      | Less ↦ λ o g. found_holds P es p v h.1 g
      | Greater ↦ λ o g. found_holds P es p v h.1 g
    ] refl f

pub some_value : (o : Option ℕ) → IsSome o → (v : ℕ) × (o ≡ Some v)
some_value None h = absurd (cc)
some_value (Some v) h = (v, refl)

pub placed_grid : (rows columns : ℕ) (es : List Entry) → rows ≤ limit → columns ≤ limit → len (from_entries {R = pos_cmp} es) ≤ limit → AllByRecursion (IsPlaced 0 rows columns) es → IsGrid (grid rows columns es)
placed_grid rows columns es r c l h =
    record {
      rows_small = r;
      columns_small = c;
      entries_small = l;
      inside = λ p i. let v = some_value (get (from_entries {R = pos_cmp} es) p) i in
          let a = found_holds (IsPlaced 0 rows columns) es p v.0 h (sym (get-from_entries pos_total es p) ∙ v.1) in (a.row, a.column);
      words = λ p v e. (found_holds (IsPlaced 0 rows columns) es p v h (sym (get-from_entries pos_total es p) ∙ e)).word;
    }

module _ (rows columns : ℕ) (starts : List ℕ) (cells : Row) (ended : List Row) (r : rows ≤ limit) (c : columns ≤ limit) (count : length ended ≡ rows) (small : length (numbered 0 ended) ≤ limit)
    (closed : AreClosed starts cells) (listed : ended_rows 0 (ends_of starts) cells ≡ ended) (are_rows : AllByRecursion (λ q. IsRow columns q) ended) where
  pub joined_entries : by_rows (ends_of starts) cells ≡ numbered 0 ended
  joined_entries = entries_closed (ends_of starts) cells closed.none_open ∙ ap (numbered 0) listed

  joined_sorted : is_sorted pos_cmp (numbered 0 ended) ≡ true
  joined_sorted = sorted_rows columns 0 ended are_rows

  joined_few : len (from_entries {R = pos_cmp} (numbered 0 ended)) ≤ limit
  joined_few = omega (arith, len-entries (from_entries {R = pos_cmp} (numbered 0 ended)), ap length (entries-from_entries (numbered 0 ended) joined_sorted))

  pub joined_grid : IsGrid (grid rows columns (by_rows (ends_of starts) cells))
  joined_grid = rw joined_entries (placed_grid rows columns (numbered 0 ended) r c joined_few (placed_rows 0 rows columns ended (omega arith) are_rows))

  pub joined_starts : AreStarts rows starts cells
  joined_starts =
      record {
        begin = closed.begin;
        count = sym (length-ended 0 (ends_of starts) cells) ∙ ap length listed ∙ count;
        within = within_of 0 (length cells) (ends_of starts) (subst (λ (n : ℕ). AreEnds 0 (ends_of starts) n) (let q : length cells ≡ 0 + length cells = omega arith in q) closed.rise);
        ascending = ap (is_sorted pos_cmp) joined_entries ∙ joined_sorted;
      }

-- ---- run by run

pub all_append : {X : Type 0} (P : X → Type 0) (xs ys : List X) → AllByRecursion P xs → AllByRecursion P ys → AllByRecursion P (xs ++ ys)
all_append P [] ys a b = b
all_append P (x ∷ xs) ys a b = (a.0, all_append P xs ys a.1 b)

ended_append : (rs ss : List Run) → all_ended (rs ++ ss) ≡ all_ended rs ++ all_ended ss
ended_append [] ss = refl
ended_append (r ∷ rs) ss = ap (λ (x : List Row). r.ended ++ x) (ended_append rs ss) ∙ sym (append_assoc r.ended (all_ended rs) (all_ended ss))

pub ended_more : (k : ℕ) (runs : List Run) (r : Run) → k < length runs → r ≡ get_or runs k r → all_ended (take (k + 1) runs) ≡ all_ended (take k runs) ++ r.ended
ended_more k runs r l e =
    ap all_ended (take_more runs k r l) ∙ ended_append (take k runs) (get_or runs k r ∷ [])
    ∙ ap (λ (x : List Row). all_ended (take k runs) ++ x) (append-nil (get_or runs k r).ended ∙ ap (λ (q : Run). q.ended) (sym e))

pub rows_more : (k columns : ℕ) (runs : List Run) (r : Run) → k < length runs → r ≡ get_or runs k r → AllByRecursion (λ q. IsRow columns q) (all_ended (take k runs)) → AllByRecursion (λ q. IsRow columns q) r.ended
    → AllByRecursion (λ q. IsRow columns q) (all_ended (take (k + 1) runs))
rows_more k columns runs r l e a b = rw (ended_more k runs r l e) (all_append (λ q. IsRow columns q) (all_ended (take k runs)) r.ended a b)

-- each run has these columns, and no entry in its open row
pub follow_each : (k columns at to : ℕ) (runs : List Run) (d : Run) → k < length runs → Follow columns at to runs → ((get_or runs k d).columns ≡ columns) × ((get_or runs k d).opened ≡ [])
follow_each k columns at to [] d l h = absurd (omega arith)
follow_each zero columns at to (r ∷ rs) d l h = (h.1, h.2)
follow_each (suc k) columns at to (r ∷ rs) d l h = follow_each k columns (at + length r.ended) to rs d (omega arith) h.3

pub nothing_closed : (starts : List ℕ) (cells : Row) → starts ≡ 0 ∷ [] → cells ≡ [] → AreClosed starts cells
nothing_closed starts cells s c =
    record {
      begin = s ∙ ap (λ (es : List ℕ). 0 ∷ es) (sym (ap ends_of s));
      rise = rw (s, c) (omega arith);
      none_open = rw (s, c) refl;
    }

pub nothing_listed : (starts : List ℕ) (cells : Row) → starts ≡ 0 ∷ [] → cells ≡ [] → ended_rows 0 (ends_of starts) cells ≡ []
nothing_listed starts cells s c = ap (λ (es : List ℕ). ended_rows 0 (ends_of es) cells) s
