-- Cells that stand in runs of rows: what is in one list.
use Rattle.std.proofs.Common.{take, drop, zero, suc, ◌≡◌, ◌≤◌, ◌<◌, ◌+◌, ◌-◌, ◌*◌, ◌/◌, ℕ, List, [], ◌∷◌, ◌++◌, length, get_or, refl, sym, map, ap, ◌∙◌, subst, arith, length-append, length-drop, append-nil, append_assoc}
use Rattle.std.proofs.lemmas.List.{take_all, take-append-le, take_more, length-map, drop-append-le}
use Rattle.std.proofs.lemmas.Bool.{cases_lt}
use Rattle.std.proofs.Math.Logic.{⊎_elim}
use Rattle.std.specs.List.{AllByRecursion}
use Rattle.std.specs.Global.{Vec}
use Rattle.csr_store.specs.Grid.{Cell, at_row, limit}
use Rattle.csr_store.specs.ByRows.{ends_of}
use Rattle.csr_store.specs.Run.{Run, Row, IsInRun, numbered}
use Rattle.csr_store.specs.Stacked.{IsNext}
use Rattle.csr_store.specs.Valued.{entries_in}
use Rattle.csr_store.specs.inner.ByRows.{AreStarts}
use Rattle.csr_store.specs.inner.Run.{AreEnds, AreClosed, AreRows, IsRow, ended_rows, open_row}
use Rattle.csr_store.specs.inner.Cells.{joined, joined_cells, cells_before, IsPart, AreParts, AreBases, AreStacked}
use Rattle.csr_store.specs.declared.cells.Cells.{Cells}
use Rattle.csr_store.specs.declared.cells.Cells.TheVariants.{Whole, Runs}
use Rattle.csr_store.proofs.Joining.{all_append, inner_ends, inner_end, joined_rows, joined_closed_rows}
use Rattle.csr_store.proofs.Runs.{length-ended}
use Rattle.csr_store.proofs.Slicing.{start_within, length_starts}
use Rattle.csr_store.proofs.Copies.{starts_rise, start_below}
use Rattle.csr_store.proofs.Valuing.{entries_ended}

-- ---- lists of cells

pub joined_append : (xs ys : List (Vec Cell)) → joined (xs ++ ys) ≡ joined xs ++ joined ys
joined_append [] ys = refl
joined_append (x ∷ xs) ys = ap (λ (cs : List Cell). x.items ++ cs) (joined_append xs ys) ∙ sym (append_assoc x.items (joined xs) (joined ys))

pub joined_more : (xs : List (Vec Cell)) (v : Vec Cell) → joined (xs ++ v ∷ []) ≡ joined xs ++ v.items
joined_more xs v = joined_append xs (v ∷ []) ∙ ap (λ (cs : List Cell). joined xs ++ cs) (append-nil v.items)

-- the cells of one run
pub run_split : (k : ℕ) (xs : List (Vec Cell)) (d : Vec Cell) → k < length xs → cells_before xs (k + 1) ≡ cells_before xs k + length (get_or xs k d).items
run_split k xs d l =
    ap (λ (vs : List (Vec Cell)). length (joined vs)) (take_more xs k d l)
    ∙ (ap (λ (cs : List Cell). length cs) (joined_more (take k xs) (get_or xs k d)) ∙ length-append (joined (take k xs)) (get_or xs k d).items)

-- what stands in a run stands in the list of all, behind the cells before it
pub part_of_run : (k from to : ℕ) (xs : List (Vec Cell)) (d : Vec Cell) → k < length xs → cells_before xs k ≤ from → from ≤ to → to ≤ cells_before xs (k + 1)
    → take (to - cells_before xs k - (from - cells_before xs k)) (drop (from - cells_before xs k) (get_or xs k d).items) ≡ take (to - from) (drop from (joined xs))
part_of_run k from to [] d l b o w = absurd (omega arith)
part_of_run zero from to (x ∷ xs) d l b o w =
    let n : to ≤ length x.items = (let e = run_split zero (x ∷ xs) d l in omega (arith, e)) in
    let m : to - 0 - (from - 0) ≡ to - from = omega arith in
    let f : from - 0 ≡ from = omega arith in
    ap (λ j. take j (drop (from - 0) x.items)) m ∙ ap (λ j. take (to - from) (drop j x.items)) f
    ∙ (sym (take-append-le (to - from) (drop from x.items) (joined xs) (omega (arith, length-drop from x.items)))
    ∙ ap (take (to - from)) (sym (drop-append-le from x.items (joined xs) (omega arith))))
part_of_run (suc k) from to (x ∷ xs) d l b o w =
    let e : cells_before (x ∷ xs) (suc k) ≡ length x.items + cells_before xs k = length-append x.items (joined (take k xs)) in
    let s : suc k + 1 ≡ suc (k + 1) = omega arith in
    let e2 : cells_before (x ∷ xs) (suc k + 1) ≡ length x.items + cells_before xs (k + 1) =
    ap (cells_before (x ∷ xs)) s ∙ length-append x.items (joined (take (k + 1) xs)) in
    let i = part_of_run k (from - length x.items) (to - length x.items) xs d (omega arith) (omega (arith, e)) (omega (arith, e)) (omega (arith, e, e2)) in
    let p : to - cells_before (x ∷ xs) (suc k) - (from - cells_before (x ∷ xs) (suc k)) ≡ to - length x.items - cells_before xs k - (from - length x.items - cells_before xs k) = omega (arith, e) in
    let q : from - cells_before (x ∷ xs) (suc k) ≡ from - length x.items - cells_before xs k = omega (arith, e) in
    let r : to - length x.items - (from - length x.items) ≡ to - from = omega (arith, e) in
    ap (λ j. take j (drop (from - cells_before (x ∷ xs) (suc k)) (get_or xs k d).items)) p
    ∙ (ap (λ j. take (to - length x.items - cells_before xs k - (from - length x.items - cells_before xs k)) (drop j (get_or xs k d).items)) q
    ∙ (i ∙ (ap (λ j. take j (drop (from - length x.items) (joined xs))) r ∙ ap (take (to - from)) (sym (drop_behind from x.items (joined xs) (omega (arith, e)))))))
  where
    drop_behind : (n : ℕ) (cs ds : List Cell) → length cs ≤ n → drop n (cs ++ ds) ≡ drop (n - length cs) ds
    drop_behind n [] ds h = ap (λ j. drop j ds) (let q : n ≡ n - 0 = omega arith in q)
    drop_behind zero (c ∷ cs) ds h = absurd (omega arith)
    drop_behind (suc n) (c ∷ cs) ds h =
        drop_behind n cs ds (omega arith) ∙ ap (λ j. drop j ds) (let q : n - length cs ≡ suc n - suc (length cs) = omega arith in q)

-- ---- where runs start

get_front : (xs ys : List ℕ) (k : ℕ) → k < length xs → get_or (xs ++ ys) k 0 ≡ get_or xs k 0
get_front [] ys k l = absurd (omega arith)
get_front (x ∷ xs) ys zero l = refl
get_front (x ∷ xs) ys (suc k) l = get_front xs ys k (omega arith)

last_end : (from : ℕ) (ends : List ℕ) (cs : Row) → AreEnds from ends (from + length cs) → open_row from ends cs ≡ [] → get_or (from ∷ ends) (length ends) 0 ≡ from + length cs
last_end from [] cs h n = let e = ap (λ (r : Row). length r) n in omega (arith, e)
last_end from (to ∷ ends) cs h n =
    last_end to ends (drop (to - from) cs) (inner_ends from to ends cs h.0 h.1) n ∙ inner_end from to ends cs h.0 h.1

-- compressed rows that all have an end: the last is that of the cells
pub closed_last : (starts : List ℕ) (cells : Row) → AreClosed starts cells → get_or starts (length (ends_of starts)) 0 ≡ length cells
closed_last starts cells h =
    let z : 0 + length cells ≡ length cells = omega arith in
    ap (λ (xs : List ℕ). get_or xs (length (ends_of starts)) 0) h.begin
    ∙ (last_end 0 (ends_of starts) cells (subst (λ (n : ℕ). AreEnds 0 (ends_of starts) n) (sym z) h.rise) h.none_open ∙ z)

pub length_closed : (starts : List ℕ) (cells : Row) → AreClosed starts cells → length starts ≡ length (ends_of starts) + 1
length_closed starts cells h = ap (λ (xs : List ℕ). length xs) h.begin ∙ (let q : suc (length (ends_of starts)) ≡ length (ends_of starts) + 1 = omega arith in q)

-- a further run, behind full ones
pub bases_more : (starts ends : List ℕ) (runs : List (Vec Cell)) (v : Vec Cell) → AreClosed starts (joined runs) → length (ends_of starts) ≡ length runs * 256 → AreBases starts runs
    → AreBases (starts ++ ends) (runs ++ v ∷ [])
bases_more starts ends runs v closed full h k l =
    let n = length-append runs (v ∷ []) in
    let m = length_closed starts (joined runs) closed in
    let more = length-append starts ends in
    ⊎_elim (λ (a : k < length runs).
    let b = h k a in let low = b.0 in (
      omega (arith, more, low),
      get_front starts ends (k * 256) low
          ∙ (b.1 ∙ ap (λ (vs : List (Vec Cell)). length (joined vs)) (sym (take-append-le k runs (v ∷ []) (omega arith)))),
    ))
    (λ (a : length runs ≤ k).
    let at : k * 256 ≡ length (ends_of starts) = omega (arith, a, full, l, n) in (
      omega (arith, more, m, at),
      get_front starts ends (k * 256) (omega (arith, m, at))
          ∙ (ap (λ j. get_or starts j 0) at ∙ (closed_last starts (joined runs) closed
          ∙ ap (λ (vs : List (Vec Cell)). length (joined vs)) (sym (take-append-le k runs (v ∷ []) (omega (arith, a, l, n)) ∙ take_all k runs a)))),
    ))
    (cases_lt k (length runs))

-- ---- each row in its run

pub whole_parts : (rows columns : ℕ) (starts : List ℕ) (cells : Vec Cell) → AreStarts rows starts cells.items → AreParts rows starts (Whole cells)
whole_parts rows columns starts cells h i l = start_within rows columns starts cells.items h i l

pub run_parts : (rows columns : ℕ) (starts : List ℕ) (runs : Vec (Vec Cell)) → AreStarts rows starts (joined runs.items) → AreBases starts runs.items → rows ≤ length runs.items * 256
    → AreParts rows starts (Runs runs)
run_parts rows columns starts runs h bases cover i l =
    let n = length_starts rows starts (joined runs.items) h in
    let k = i / 256 in
    let kl : k < length runs.items = omega (arith, cover, l) in
    let low : k * 256 ≤ i = omega arith in
    let b = bases k kl in
    let z : k * 256 + (i - k * 256) ≡ i = omega (arith, low) in
    let up = starts_rise rows columns starts (joined runs.items) h (k * 256) (i - k * 256) (omega (arith, z, l)) in
    let up2 : get_or starts (k * 256) 0 ≤ get_or starts i 0 = rw z at up in
    let w = start_within rows columns starts (joined runs.items) h i l in
    (kl, b.1, (let e = b.1 in omega (arith, e, up2)), w.0, below k kl low (omega arith))
  where
    below : (k : ℕ) → k < length runs.items → k * 256 ≤ i → i < k * 256 + 256 → get_or starts (i + 1) 0 ≤ cells_before runs.items (k + 1)
    below k kl low high =
        ⊎_elim (λ (a : k + 1 < length runs.items).
        let n = length_starts rows starts (joined runs.items) h in
        let b = bases (k + 1) a in let lo = b.0 in let e = b.1 in
        let z : i + 1 + ((k + 1) * 256 - (i + 1)) ≡ (k + 1) * 256 = omega (arith, high) in
        let up = starts_rise rows columns starts (joined runs.items) h (i + 1) ((k + 1) * 256 - (i + 1)) (omega (arith, z, lo, n)) in
        let up2 : get_or starts (i + 1) 0 ≤ get_or starts ((k + 1) * 256) 0 = rw z at up in
        omega (arith, up2, e))
        (λ (a : length runs.items ≤ k + 1).
        let b = start_below rows columns starts (joined runs.items) h (i + 1) (omega (arith, l)) in
        let e : cells_before runs.items (k + 1) ≡ length (joined runs.items) = ap (λ (vs : List (Vec Cell)). length (joined vs)) (take_all (k + 1) runs.items a) in
        omega (arith, b, e))
        (cases_lt (k + 1) (length runs.items))

-- the cells of rows that stand in one list
pub stretch_part : (rows columns : ℕ) (starts : List ℕ) (cells : Cells) (from to : ℕ) → AreStarts rows starts (joined_cells cells) → AreParts rows starts cells → from < to → to ≤ rows
    → IsInRun from to → IsPart cells (from / 256) (get_or starts (from / 256 * 256) 0) (get_or starts from 0) (get_or starts to 0)
stretch_part rows columns starts (Whole cells) from to h parts l w near =
    let z : from + (to - from) ≡ to = omega arith in
    let up = starts_rise rows columns starts cells.items h from (to - from) (omega arith) in
    let up2 : get_or starts from 0 ≤ get_or starts to 0 = rw z at up in
    (up2, start_below rows columns starts cells.items h to w)
stretch_part rows columns starts (Runs runs) from to h parts l w near =
    let z : from + (to - from) ≡ to = omega arith in
    let up = starts_rise rows columns starts (joined runs.items) h from (to - from) (omega arith) in
    let up2 : get_or starts from 0 ≤ get_or starts to 0 = rw z at up in
    let first = parts from (omega arith) in
    let same : (to - 1) / 256 ≡ from / 256 = omega (arith, near, l) in
    let next : to - 1 + 1 ≡ to = omega arith in
    let last = (parts (to - 1) (omega arith)).4 in
    let last2 : get_or starts to 0 ≤ cells_before runs.items (from / 256 + 1) = rw (same, next) at last in
    (first.0, first.1, first.2, up2, last2)

-- ---- one run more

in_append : (xs ys : List Row) → entries_in (xs ++ ys) ≡ entries_in xs + entries_in ys
in_append [] ys = (let q : (n : ℕ) → n ≡ 0 + n = λ n. omega arith in q (entries_in ys))
in_append (x ∷ xs) ys = omega (arith, in_append xs ys)

cells_here : (i : ℕ) (r : Row) → length (at_row i r) ≡ length r
cells_here i r = length-map r (λ (c : Cell). ((i, c.0), c.1))

in_numbered : (i : ℕ) (rows : List Row) → length (numbered i rows) ≡ entries_in rows
in_numbered i [] = refl
in_numbered i (r ∷ rows) =
    omega (arith, length-append (at_row i r) (numbered (i + 1) rows), cells_here i r, in_numbered (i + 1) rows)

-- rows that all have an end have all cells
entries_all : (ends : List ℕ) (cells : Row) → AreEnds 0 ends (length cells) → open_row 0 ends cells ≡ [] → entries_in (ended_rows 0 ends cells) ≡ length cells
entries_all ends cells rise none =
    let z : length cells ≡ 0 + length cells = omega arith in
    let q : AreEnds 0 ends (0 + length cells) = rw z at rise in
    let e = entries_ended 0 ends cells q in
    let n = ap (λ (r : Row). length r) none in
    omega (arith, e, n)

-- the entries of stacked runs
pub stacked_few : (columns entries : ℕ) (starts : List ℕ) (runs : List (Vec Cell)) → AreStacked columns entries starts runs
    → length (numbered 0 (ended_rows 0 (ends_of starts) (joined runs))) ≤ limit
stacked_few columns entries starts runs h =
    let a = entries_all (ends_of starts) (joined runs) h.closed.rise h.closed.none_open in
    let b = in_numbered 0 (ended_rows 0 (ends_of starts) (joined runs)) in
    let c = h.count in let f = h.few in
    omega (arith, a, b, c, f)

-- a run of rows behind a stack of full ones
module _ (stack next : Run) (columns entries : ℕ) (starts ends : List ℕ) (runs : List (Vec Cell)) (part : Vec Cell) (h : AreStacked columns entries starts runs)
    (view : record { first = 0; columns = columns; ended = ended_rows 0 (ends_of starts) (joined runs); opened = [] } ≡ stack)
    (rows : AreRows next.columns ends part.items) (ended : ended_rows 0 ends part.items ≡ next.ended) (opened : open_row 0 ends part.items ≡ next.opened)
    (is_next : IsNext next stack) where
  none : open_row 0 ends part.items ≡ []
  none = opened ∙ is_next.none_open

  pub room_behind : entries + length part.items ≤ limit
  room_behind =
      let a = entries_all (ends_of starts) (joined runs) h.closed.rise h.closed.none_open in
      let b = entries_all ends part.items rows.ends_rise none in
      let v = ap (λ (r : Run). entries_in r.ended) view in
      let w = ap entries_in ended in
      let d = in_append stack.ended next.ended in
      let n = in_numbered 0 (stack.ended ++ next.ended) in
      let c = h.count in let small = is_next.small in
      omega (arith, a, b, v, w, c, d, n, small)

  module _ (new : List ℕ) (all : List (Vec Cell)) (s : new ≡ starts ++ map (λ e. entries + e) ends) (t : all ≡ runs ++ part ∷ []) where
    shifted : new ≡ starts ++ map (λ e. length (joined runs) + e) ends
    shifted = s ∙ ap (λ n. starts ++ map (λ e. n + e) ends) h.count

    more : joined all ≡ joined runs ++ part.items
    more = ap joined t ∙ joined_more runs part

    both : ended_rows 0 (ends_of new) (joined all) ≡ ended_rows 0 (ends_of starts) (joined runs) ++ ended_rows 0 ends part.items
    both = joined_rows starts new ends (joined runs) (joined all) part.items h.closed rows.ends_rise none shifted more

    pub view_stacked : (let r : Run = record { first = 0; columns = columns; ended = ended_rows 0 (ends_of new) (joined all); opened = [] } in r) ≡ record stack { ended = stack.ended ++ next.ended }
    view_stacked =
        ap (λ (rs : List Row). record { first = 0; columns = columns; ended = rs; opened = [] }) both
        ∙ ap (λ (r : Run). record r { ended = r.ended ++ ended_rows 0 ends part.items }) view
        ∙ ap (λ (rs : List Row). record stack { ended = stack.ended ++ rs }) ended

    pub stacked_more : AreStacked columns (entries + length part.items) new all
    stacked_more =
        let closed = joined_closed_rows starts new ends (joined runs) (joined all) part.items h.closed rows.ends_rise none shifted more in
        let before = ap (λ (r : Run). length r.ended) view in
        let rows_before = length-ended 0 (ends_of starts) (joined runs) in
        let rows_after = length-ended 0 (ends_of new) (joined all) in
        let after = ap (λ (r : Run). length r.ended) view_stacked in
        let long = length-append stack.ended next.ended in
        let lists = ap (λ (vs : List (Vec Cell)). length vs) t ∙ length-append runs (part ∷ []) in
        let cells = ap (λ (cs : Row). length cs) more ∙ length-append (joined runs) part.items in
        let filled = h.filled in let count = h.count in
        let full = is_next.full in let some = is_next.some in let most = is_next.even in
        record {
          closed = closed;
          are_rows = subst (AllByRecursion (λ r. IsRow columns r)) (sym both)
              (all_append (λ r. IsRow columns r) (ended_rows 0 (ends_of starts) (joined runs)) (ended_rows 0 ends part.items) h.are_rows
              (subst (λ (n : ℕ). AllByRecursion (λ r. IsRow n r) (ended_rows 0 ends part.items)) (is_next.columns ∙ sym (ap (λ (r : Run). r.columns) view)) rows.ended_are));
          bases = subst (λ (xs : List ℕ). AreBases xs all) (sym s) (subst (AreBases (starts ++ map (λ e. entries + e) ends)) (sym t)
              (bases_more starts (map (λ e. entries + e) ends) runs part h.closed (omega (arith, full, filled, before, rows_before)) h.bases));
          filled = omega (arith, full, filled, some, most, before, rows_before, after, rows_after, long, lists);
          count = omega (arith, count, cells);
          few = room_behind;
        }
