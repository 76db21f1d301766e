-- A grid row by row, for every crate that goes through the rows of a matrix.
use Rattle.std.proofs.Common.{zero, suc, ◌≡◌, ◌≤◌, ◌<◌, ◌+◌, ℕ, Bool, true, false, ◌&&◌, cond, List, [], ◌∷◌, ◌++◌, map, filter, length, take, get_or, Some, nat_eq, refl, sym, ap, ◌∙◌, arith, length-append}
use Rattle.std.specs.Prelude.{nat_lt, ◌^◌, flat_map}
use Rattle.std.specs.List.{range_with_len}
use Rattle.std.proofs.Common.{append_assoc, drop}
use Rattle.std.proofs.lemmas.List.{length-map, length-take, length-take-le, take-take, take-map, map_more, take-append-drop, take_more, drop_all}
use Rattle.std.specs.Cmp.{tied_itself, nat_cmp_total}
use Rattle.std.proofs.Math.Seq.{take-append-add, drop-append_seam}
use Rattle.std.proofs.lemmas.Bool.{lt-ltb, le-ltb, eqb-true, eqb-false}
use borrow.Author.Tests.{ltb-true, ltb-false}
use Rattle.std.specs.declared.cmp.Ordering.{Ordering}
use Rattle.std.specs.declared.cmp.Ordering.TheVariants.{Less, Equal, Greater}
use Rattle.std.specs.Ordering.{nat_cmp, ordering_then, is_lt, is_gt}
use Rattle.std.specs.Map.{lookup}
use Rattle.std.proofs.lemmas.Map.Keys.{le_from_not_gt}
use Rattle.std.specs.FinMap.{entries, get, is_sorted, get-entries, entries_sorted}
use Rattle.std.specs.FinMap.Entries.{below_all, find, is_sorted-where_key}
use Rattle.csr_store.specs.Grid.{Grid, Position, Entry, Cell, IsInside, IsGrid, pos_cmp, row_cells, row_of, at_row, row_start}
use Rattle.csr_store.proofs.Order.{both_true, is_eq-pos_cmp}
use Rattle.csr_store.proofs.Laws.{entries_ascend, get-entry, entry_inside, true_from}

-- The value at a position is that of its row at its column.

pub lookup-row_cells : (es : List Entry) (i j : ℕ) → lookup (nat_eq j) (row_cells i es) ≡ find pos_cmp (i, j) es
lookup-row_cells [] i j = refl
lookup-row_cells (e ∷ es) i j =
    let rest = lookup-row_cells es i j in
    rw (is_eq-pos_cmp i j e.0) (elim (nat_eq e.0.0 i) as (λ t. lookup (nat_eq j) (map (λ (f : Entry). (f.0.1, f.1)) (cond t (e ∷ filter (λ (f : Entry). nat_eq f.0.0 i) es) (filter (λ (f : Entry). nat_eq f.0.0 i) es))) ≡ cond (t && nat_eq j e.0.1) (Some e.1) (find pos_cmp (i, j) es)) [
      | true ↦ ap (λ o. cond (nat_eq j e.0.1) (Some e.1) o) rest
      | false ↦ rest
    ])

pub lookup-row_of : (g : Grid) (i j : ℕ) → lookup (nat_eq j) (row_of g i) ≡ get g.cells (i, j)
lookup-row_of g i j = lookup-row_cells (entries g.cells) i j ∙ sym (get-entries g.cells (i, j))

-- The entries of a row stand together, behind those of the rows before it.

row_not_above : (o p : Ordering) → is_lt (ordering_then o p) ≡ true → is_gt o ≡ false
row_not_above Less p h = refl
row_not_above Equal p h = refl
row_not_above Greater p h = absurd (cc)

-- no entry above one in row i or later stands in a row before i
none_before : (i : ℕ) (x : Position) (es : List Entry) → i ≤ x.0 → below_all pos_cmp x es ≡ true → filter (λ (e : Entry). nat_lt e.0.0 i) es ≡ []
none_before i x [] h b = refl
none_before i x (e ∷ es) h b =
    let t = both_true _ _ b in
    let above = le_from_not_gt x.0 e.0.0 (row_not_above (nat_cmp x.0 e.0.0) (nat_cmp x.1 e.0.1) t.0) in
    let not_before : nat_lt e.0.0 i ≡ false = le-ltb e.0.0 i (omega arith) in
    rw not_before (none_before i x es h t.1)

at_row-next : (i : ℕ) (e : Entry) (es : List Entry) (b : Bool) → nat_eq e.0.0 i ≡ b → at_row i (row_cells i es) ≡ filter (λ (x : Entry). nat_eq x.0.0 i) es
    → at_row i (map (λ (x : Entry). (x.0.1, x.1)) (cond b (e ∷ filter (λ (x : Entry). nat_eq x.0.0 i) es) (filter (λ (x : Entry). nat_eq x.0.0 i) es))) ≡ cond b (e ∷ filter (λ (x : Entry). nat_eq x.0.0 i) es) (filter (λ (x : Entry). nat_eq x.0.0 i) es)
at_row-next i e es false h rest = rest
at_row-next i e es true h rest =
    let same : e.0.0 ≡ i = eqb-true e.0.0 i h in
    ap (λ (k : ℕ). ((k, e.0.1), e.1) ∷ at_row i (row_cells i es)) (sym same) ∙ ap (λ (fs : List Entry). e ∷ fs) rest

-- the cells of row i are the entries of row i
pub at_row-row_cells : (i : ℕ) (es : List Entry) → at_row i (row_cells i es) ≡ filter (λ (e : Entry). nat_eq e.0.0 i) es
at_row-row_cells i [] = refl
at_row-row_cells i (e ∷ es) = at_row-next i e es (nat_eq e.0.0 i) refl (at_row-row_cells i es)

take_before_next : (i : ℕ) (e : Entry) (es : List Entry) (b : Bool) → nat_lt e.0.0 i ≡ b → below_all pos_cmp e.0 es ≡ true → take (length (filter (λ (x : Entry). nat_lt x.0.0 i) es)) es ≡ filter (λ (x : Entry). nat_lt x.0.0 i) es
    → take (length (cond b (e ∷ filter (λ (x : Entry). nat_lt x.0.0 i) es) (filter (λ (x : Entry). nat_lt x.0.0 i) es))) (e ∷ es) ≡ cond b (e ∷ filter (λ (x : Entry). nat_lt x.0.0 i) es) (filter (λ (x : Entry). nat_lt x.0.0 i) es)
take_before_next i e es true h below rest = ap (λ (fs : List Entry). e ∷ fs) rest
take_before_next i e es false h below rest = rw (none_before i e.0 es (ltb-false e.0.0 i h) below) refl

-- the entries before row i come first
take_before : (i : ℕ) (es : List Entry) → is_sorted pos_cmp es ≡ true → take (length (filter (λ (e : Entry). nat_lt e.0.0 i) es)) es ≡ filter (λ (e : Entry). nat_lt e.0.0 i) es
take_before i [] h = refl
take_before i (e ∷ es) h = take_before_next i e es (nat_lt e.0.0 i) refl (both_true _ _ h).0 (take_before i es (both_true _ _ h).1)

before_more : (i : ℕ) (e : Entry) (es : List Entry) (a b : Bool) → nat_lt e.0.0 i ≡ a → nat_eq e.0.0 i ≡ b → below_all pos_cmp e.0 es ≡ true
    → filter (λ (x : Entry). nat_lt x.0.0 (i + 1)) es ≡ filter (λ (x : Entry). nat_lt x.0.0 i) es ++ filter (λ (x : Entry). nat_eq x.0.0 i) es
    → cond (nat_lt e.0.0 (i + 1)) (e ∷ filter (λ (x : Entry). nat_lt x.0.0 (i + 1)) es) (filter (λ (x : Entry). nat_lt x.0.0 (i + 1)) es)
    ≡ cond a (e ∷ filter (λ (x : Entry). nat_lt x.0.0 i) es) (filter (λ (x : Entry). nat_lt x.0.0 i) es) ++ cond b (e ∷ filter (λ (x : Entry). nat_eq x.0.0 i) es) (filter (λ (x : Entry). nat_eq x.0.0 i) es)
before_more i e es true true h k below rest = let a = ltb-true e.0.0 i h in let b = eqb-true e.0.0 i k in absurd (omega arith)
before_more i e es true false h k below rest =
    let a = ltb-true e.0.0 i h in
    let t : nat_lt e.0.0 (i + 1) ≡ true = lt-ltb e.0.0 (i + 1) (omega arith) in
    rw t (ap (λ (fs : List Entry). e ∷ fs) rest)
before_more i e es false true h k below rest =
    let b = eqb-true e.0.0 i k in
    let t : nat_lt e.0.0 (i + 1) ≡ true = lt-ltb e.0.0 (i + 1) (omega arith) in
    let none = none_before i e.0 es (ltb-false e.0.0 i h) below in
    rw (t, none) (ap (λ (fs : List Entry). e ∷ fs) (rest ∙ ap (λ (fs : List Entry). fs ++ filter (λ (x : Entry). nat_eq x.0.0 i) es) none))
before_more i e es false false h k below rest =
    let a = ltb-false e.0.0 i h in
    let t : nat_lt e.0.0 (i + 1) ≡ false = le-ltb e.0.0 (i + 1) (let n = eqb-false e.0.0 i k in omega arith) in
    rw t rest

-- the entries before the next row are those before row i and those of row i
before_next : (i : ℕ) (es : List Entry) → is_sorted pos_cmp es ≡ true → filter (λ (e : Entry). nat_lt e.0.0 (i + 1)) es ≡ filter (λ (e : Entry). nat_lt e.0.0 i) es ++ filter (λ (e : Entry). nat_eq e.0.0 i) es
before_next i [] h = refl
before_next i (e ∷ es) h = before_more i e es (nat_lt e.0.0 i) (nat_eq e.0.0 i) refl refl (both_true _ _ h).0 (before_next i es (both_true _ _ h).1)

-- The entries before row i, then those of row i, are those before the next row.

take_start : (g : Grid) (i : ℕ) → take (row_start g i) (entries g.cells) ≡ filter (λ (e : Entry). nat_lt e.0.0 i) (entries g.cells)
take_start g i = take_before i (entries g.cells) (entries_ascend g.cells)

pub take_next : (g : Grid) (i : ℕ) → take (row_start g (i + 1)) (entries g.cells) ≡ take (row_start g i) (entries g.cells) ++ at_row i (row_of g i)
take_next g i =
    take_start g (i + 1) ∙ before_next i (entries g.cells) (entries_ascend g.cells)
    ∙ ap (λ (fs : List Entry). fs ++ filter (λ (e : Entry). nat_eq e.0.0 i) (entries g.cells)) (sym (take_start g i))
    ∙ ap (λ (fs : List Entry). take (row_start g i) (entries g.cells) ++ fs) (sym (at_row-row_cells i (entries g.cells)))

none_first : (es : List Entry) → filter (λ (e : Entry). nat_lt e.0.0 0) es ≡ []
none_first [] = refl
none_first (e ∷ es) = let t : nat_lt e.0.0 0 ≡ false = le-ltb e.0.0 0 (omega arith) in rw t (none_first es)

pub row_start-zero : (g : Grid) → row_start g 0 ≡ 0
row_start-zero g = ap length (none_first (entries g.cells))

pub row_start-next : (g : Grid) (i : ℕ) → row_start g (i + 1) ≡ row_start g i + length (row_of g i)
row_start-next g i =
    ap length (before_next i (entries g.cells) (entries_ascend g.cells)) ∙ length-append _ _
    ∙ ap (λ n. row_start g i + n) (sym (length-map (filter (λ (e : Entry). nat_eq e.0.0 i) (entries g.cells)) (λ (e : Entry). (e.0.1, e.1))))

pub row_start-within : (g : Grid) (i : ℕ) → row_start g i ≤ length (entries g.cells)
row_start-within g i = omega (arith, ap length (take_start g i), length-take (row_start g i) (entries g.cells))

-- the entries up to k of row i
pub take_within : (g : Grid) (i k : ℕ) → k ≤ length (row_of g i) → take (row_start g i + k) (entries g.cells) ≡ take (row_start g i) (entries g.cells) ++ at_row i (take k (row_of g i))
take_within g i k l =
    let before = take (row_start g i) (entries g.cells) in
    let size : length before ≡ row_start g i = length-take-le (row_start g i) (entries g.cells) (row_start-within g i) in
    let more : row_start g i + k ≤ row_start g (i + 1) = omega (arith, row_start-next g i) in
    sym (take-take (row_start g i + k) (row_start g (i + 1)) (entries g.cells) more)
    ∙ ap (take (row_start g i + k)) (take_next g i)
    ∙ ap (λ n. take (n + k) (before ++ at_row i (row_of g i))) (sym size)
    ∙ take-append-add before (at_row i (row_of g i)) k
    ∙ ap (λ (fs : List Entry). before ++ fs) (take-map (λ (c : Cell). ((i, c.0), c.1)) k (row_of g i))

-- one entry more
pub take_cell : (g : Grid) (i k : ℕ) (d : Cell) → k < length (row_of g i)
    → take (row_start g i + (k + 1)) (entries g.cells) ≡ take (row_start g i + k) (entries g.cells) ++ ((i, (get_or (row_of g i) k d).0), (get_or (row_of g i) k d).1) ∷ []
take_cell g i k d l =
    let c = get_or (row_of g i) k d in
    let before = take (row_start g i) (entries g.cells) in
    take_within g i (k + 1) (omega arith)
    ∙ ap (λ (fs : List Entry). before ++ fs) (map_more (λ (x : Cell). ((i, x.0), x.1)) (row_of g i) k d l)
    ∙ sym (append_assoc before (at_row i (take k (row_of g i))) (((i, c.0), c.1) ∷ []))
    ∙ ap (λ (fs : List Entry). fs ++ ((i, c.0), c.1) ∷ []) (sym (take_within g i k (omega arith)))

same_last : (xs : List Entry) (a b : Entry) → xs ++ a ∷ [] ≡ xs ++ b ∷ [] → a ≡ b
same_last [] a b h = cc
same_last (x ∷ xs) a b h = same_last xs a b (cc)

-- cell k of row i is the k-th entry behind those of the rows before
pub entry_of_cell : (g : Grid) (i k : ℕ) (d : Cell) (e : Entry) → k < length (row_of g i) → get_or (entries g.cells) (row_start g i + k) e ≡ ((i, (get_or (row_of g i) k d).0), (get_or (row_of g i) k d).1)
entry_of_cell g i k d e l =
    let n = row_start g i + k in
    let inside : n < length (entries g.cells) = omega (arith, row_start-next g i, row_start-within g (i + 1)) in
    let next : take (n + 1) (entries g.cells) ≡ take n (entries g.cells) ++ ((i, (get_or (row_of g i) k d).0), (get_or (row_of g i) k d).1) ∷ [] =
    ap (λ m. take m (entries g.cells)) (let same : n + 1 ≡ row_start g i + (k + 1) = omega arith in same) ∙ take_cell g i k d l in
    same_last (take n (entries g.cells)) _ _ (sym (take_more (entries g.cells) n e inside) ∙ next)

-- and so it is what the map has there
pub get-cell : (g : Grid) (i k : ℕ) (d : Cell) → k < length (row_of g i) → get g.cells (i, (get_or (row_of g i) k d).0) ≡ Some (get_or (row_of g i) k d).1
get-cell g i k d l =
    let e : Entry = ((i, d.0), d.1) in
    let n = row_start g i + k in
    let inside : n < length (entries g.cells) = omega (arith, row_start-next g i, row_start-within g (i + 1)) in
    let same = entry_of_cell g i k d e l in
    ap (λ (x : Entry). get g.cells x.0) (sym same) ∙ get-entry g.cells n e inside ∙ ap (λ (x : Entry). Some x.1) same

-- and so it is inside, and a word
pub cell_inside : (g : Grid) (i k : ℕ) (d : Cell) → IsGrid g → k < length (row_of g i) → IsInside g (i, (get_or (row_of g i) k d).0)
cell_inside g i k d h l = let e = get-cell g i k d l in h.inside (i, (get_or (row_of g i) k d).0) (cc)

pub cell_word : (g : Grid) (i k : ℕ) (d : Cell) → IsGrid g → k < length (row_of g i) → (get_or (row_of g i) k d).1 < 2 ^ 64
cell_word g i k d h l = h.words (i, (get_or (row_of g i) k d).0) (get_or (row_of g i) k d).1 (get-cell g i k d l)

no_cells : (g : Grid) (i : ℕ) (row : List Cell) → row ≡ row_of g i → IsGrid g → g.rows ≤ i → row ≡ []
no_cells g i [] e h l = refl
no_cells g i (c ∷ row) e h l =
    let size = ap length e in
    let inside = cell_inside g i 0 (0, 0) h (omega arith) in
    let row_inside = inside.0 in
    absurd (omega arith)

-- All rows together.

filter_whole : (p : Entry → Bool) (es : List Entry) → ((k : ℕ) (d : Entry) → k < length es → p (get_or es k d) ≡ true) → filter p es ≡ es
filter_whole p [] h = refl
filter_whole p (e ∷ es) h = rw (h 0 e (omega arith)) (ap (λ (fs : List Entry). e ∷ fs) (filter_whole p es (λ k d l. h (suc k) d (omega arith))))

entry_before : (g : Grid) → IsGrid g → (k : ℕ) (d : Entry) → k < length (entries g.cells) → nat_lt (get_or (entries g.cells) k d).0.0 g.rows ≡ true
entry_before g h k d l =
    lt-ltb _ _ (entry_inside g k d h l).0

pub row_start-all : (g : Grid) → IsGrid g → row_start g g.rows ≡ length (entries g.cells)
row_start-all g h = ap length (filter_whole (λ (e : Entry). nat_lt e.0.0 g.rows) (entries g.cells) (entry_before g h))

-- the entries from row i on
drop_start : (g : Grid) (i : ℕ) → drop (row_start g i) (entries g.cells) ≡ at_row i (row_of g i) ++ drop (row_start g (i + 1)) (entries g.cells)
drop_start g i =
    let before = take (row_start g i) (entries g.cells) in
    let rest = drop (row_start g (i + 1)) (entries g.cells) in
    let size : length before ≡ row_start g i = length-take-le (row_start g i) (entries g.cells) (row_start-within g i) in
    let parts : entries g.cells ≡ before ++ (at_row i (row_of g i) ++ rest) =
    sym (take-append-drop (row_start g (i + 1)) (entries g.cells)) ∙ ap (λ (fs : List Entry). fs ++ rest) (take_next g i) ∙ append_assoc before (at_row i (row_of g i)) rest in
    ap (λ (fs : List Entry). drop (row_start g i) fs) parts ∙ ap (λ n. drop n (before ++ (at_row i (row_of g i) ++ rest))) (sym size) ∙ drop-append_seam before (at_row i (row_of g i) ++ rest)

rows_joined : (g : Grid) (i n : ℕ) → IsGrid g → i + n ≡ g.rows → flat_map (λ k. at_row k (row_of g k)) (range_with_len i n) ≡ drop (row_start g i) (entries g.cells)
rows_joined g i zero h e = sym (drop_all (row_start g i) (entries g.cells) (let all = row_start-all g h in let same : row_start g i ≡ row_start g g.rows = ap (row_start g) (let q : i ≡ g.rows = omega arith in q) in omega arith))
rows_joined g i (suc n) h e = ap (λ (fs : List Entry). at_row i (row_of g i) ++ fs) (rows_joined g (i + 1) n h (omega arith)) ∙ sym (drop_start g i)

-- the rows, one after another, are the entries
pub joined_rows : (g : Grid) → IsGrid g → flat_map (λ i. at_row i (row_of g i)) (range_with_len 0 g.rows) ≡ entries g.cells
joined_rows g h = rows_joined g 0 g.rows h (omega arith) ∙ ap (λ n. drop n (entries g.cells)) (row_start-zero g)

-- A row ascends by column.

first_index : (i a b : ℕ) → pos_cmp (i, a) (i, b) ≡ nat_cmp a b
first_index i a b = ap (λ o. ordering_then o (nat_cmp a b)) (tied_itself nat_cmp_total i)

below_in_row : (i a : ℕ) (row : List Cell) → below_all pos_cmp (i, a) (at_row i row) ≡ below_all nat_cmp a row
below_in_row i a [] = refl
below_in_row i a (c ∷ row) = rw (first_index i a c.0, below_in_row i a row) refl

ascend_in_row : (i : ℕ) (row : List Cell) → is_sorted pos_cmp (at_row i row) ≡ is_sorted nat_cmp row
ascend_in_row i [] = refl
ascend_in_row i (c ∷ row) = rw (below_in_row i c.0 row, ascend_in_row i row) refl

pub row_ascends : (g : Grid) (i : ℕ) → is_sorted nat_cmp (row_of g i) ≡ true
row_ascends g i =
    sym (ascend_in_row i (row_of g i)) ∙ ap (is_sorted pos_cmp) (at_row-row_cells i (entries g.cells))
    ∙ true_from _ (is_sorted-where_key pos_cmp (λ (p : Position). nat_eq p.0 i) (entries g.cells) (entries_sorted g.cells))
