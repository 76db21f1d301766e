-- The laws of grids, for every crate that works with matrices.
use Rattle.std.proofs.Common.{T, subst, zero, suc, ◌≡◌, ◌≢◌, ◌≤◌, ◌<◌, ◌+◌, ◌^◌, ℕ, Bool, true, false, ◌&&◌, cond, List, [], ◌∷◌, ◌++◌, length, take, get_or, Option, None, Some, IsSome, is_some, refl, sym, ap, ◌∙◌, arith}
use Rattle.std.specs.Prelude.{not, nat_le}
use Rattle.std.proofs.lemmas.Bool.{lt-ltb, lt-leb}
use Rattle.std.specs.declared.cmp.Ordering.{Ordering}
use Rattle.std.specs.declared.cmp.Ordering.TheVariants.{Less, Equal, Greater}
use Rattle.std.specs.Ordering.{ordering_reverse, is_eq, is_lt}
use Rattle.std.specs.FinMap.{FinMap, entries, get, insert, len, empty, from_entries, from_sorted, is_sorted, entries_sorted, entries-insert, entries-from_sorted, get-entries, get-insert, get-empty, get-from_entries, get-from_sorted, len-insert, len-empty, same_map, same_entries_map}
use Rattle.std.specs.Cmp.{tied_itself}
use Rattle.csr_store.specs.declared.error.StoreError.TheVariants.{IndexOutOfRange, PositionGivenTwice, TooManyEntries}
use Rattle.std.specs.FinMap.Entries.{below_all, find, put}
use Rattle.csr_store.specs.Grid.{Grid, Position, Entry, IsInside, IsGrid, pos_cmp, limit}
use Rattle.csr_store.specs.Refusal.{put_fault}
use Rattle.csr_store.proofs.Order.{pos_total, pos_exact, both_true}

-- maps with the same entries are equal
pub same_entries : (m n : FinMap pos_cmp ℕ) → entries m ≡ entries n → m ≡ n
same_entries m n e = same_entries_map m n e

-- maps that answer alike at each position are equal
pub same_values : (m n : FinMap pos_cmp ℕ) → ((p : Position) → get m p ≡ get n p) → m ≡ n
same_values m n e = same_map pos_total pos_exact m n e

-- entries in ascending order are the entries of the map that they make
pub entries-from_entries : (es : List Entry) → is_sorted pos_cmp es ≡ true → entries (from_entries {R = pos_cmp} es) ≡ es
entries-from_entries es h =
    ap entries (same_values (from_entries es) (from_sorted es) (λ q. get-from_entries pos_total es q ∙ sym (get-from_sorted pos_cmp es q (subst T (sym h) tt))))
    ∙ entries-from_sorted pos_cmp es (subst T (sym h) tt)

pub true_from : (b : Bool) → T b → b ≡ true
true_from true h = refl
true_from false h = absurd h

-- the entries of a map ascend
pub entries_ascend : (m : FinMap pos_cmp ℕ) → is_sorted pos_cmp (entries m) ≡ true
entries_ascend m = true_from _ (entries_sorted m)

pub entries-empty : entries (empty {X = ℕ} {R = pos_cmp}) ≡ []
entries-empty = entries-from_entries [] refl

-- What `insert` changes.

apart : (p q : Position) (o : Ordering) → pos_cmp q p ≡ o → q ≢ p → is_eq o ≡ false
apart p q Less e n = refl
apart p q Equal e n = absurd (n (pos_exact q p e))
apart p q Greater e n = refl

pub len-insert_new : (m : FinMap pos_cmp ℕ) (p : Position) (v : ℕ) → get m p ≡ None → len (insert m p v) ≡ len m + 1
len-insert_new m p v n = len-insert pos_total m p v ∙ ap (λ o. cond (is_some o) (len m) (len m + 1)) n

reversed : (o : Ordering) → is_lt o ≡ true → ordering_reverse o ≡ Greater
reversed Less h = refl
reversed Equal h = absurd (cc)
reversed Greater h = absurd (cc)

below_last : (x p : Position) (v : ℕ) (es : List Entry) → below_all pos_cmp x (es ++ (p, v) ∷ []) ≡ true → is_lt (pos_cmp x p) ≡ true
below_last x p v [] h = (both_true _ _ h).0
below_last x p v (e ∷ es) h = below_last x p v es (both_true _ _ h).1

put_last : (p : Position) (v : ℕ) (es : List Entry) → is_sorted pos_cmp (es ++ (p, v) ∷ []) ≡ true → put pos_cmp p v es ≡ es ++ (p, v) ∷ []
put_last p v [] h = refl
put_last p v (e ∷ es) h =
    let b = both_true _ _ h in
    let above : pos_cmp p e.0 ≡ Greater = pos_total.antisymm p e.0 ∙ reversed _ (below_last e.0 p v es b.0) in
    rw above (ap (λ fs. e ∷ fs) (put_last p v es b.1))

-- an entry above all others is put last
pub entries-insert_last : (m : FinMap pos_cmp ℕ) (p : Position) (v : ℕ) → is_sorted pos_cmp (entries m ++ (p, v) ∷ []) ≡ true → entries (insert m p v) ≡ entries m ++ (p, v) ∷ []
entries-insert_last m p v h = entries-insert pos_total m p v ∙ put_last p v (entries m) h

-- Each entry is what the map has at its position.

is_eq-turned : (o : Ordering) → is_lt o ≡ true → is_eq (ordering_reverse o) ≡ false
is_eq-turned Less h = refl
is_eq-turned Equal h = absurd (cc)
is_eq-turned Greater h = absurd (cc)

-- a position is not that of a higher one
apart_above : (x p : Position) → is_lt (pos_cmp x p) ≡ true → is_eq (pos_cmp p x) ≡ false
apart_above x p h = ap is_eq (pos_total.antisymm p x) ∙ is_eq-turned (pos_cmp x p) h

below_each : (x : Position) (es : List Entry) (k : ℕ) (d : Entry) → below_all pos_cmp x es ≡ true → k < length es → is_lt (pos_cmp x (get_or es k d).0) ≡ true
below_each x [] k d h l = absurd (omega arith)
below_each x (e ∷ es) zero d h l = (both_true _ _ h).0
below_each x (e ∷ es) (suc k) d h l = below_each x es k d (both_true _ _ h).1 (omega arith)

find-entry : (es : List Entry) (k : ℕ) (d : Entry) → is_sorted pos_cmp es ≡ true → k < length es → find pos_cmp (get_or es k d).0 es ≡ Some (get_or es k d).1
find-entry [] k d h l = absurd (omega arith)
find-entry (e ∷ es) zero d h l = ap (λ o. cond (is_eq o) (Some e.1) (find pos_cmp e.0 es)) (tied_itself pos_total e.0)
find-entry (e ∷ es) (suc k) d h l =
    let t = both_true _ _ h in
    rw (apart_above e.0 (get_or es k d).0 (below_each e.0 es k d t.0 (omega arith))) (find-entry es k d t.1 (omega arith))

pub get-entry : (m : FinMap pos_cmp ℕ) (k : ℕ) (d : Entry) → k < length (entries m) → get m (get_or (entries m) k d).0 ≡ Some (get_or (entries m) k d).1
get-entry m k d l = get-entries m _ ∙ find-entry (entries m) k d (entries_ascend m) l

-- a position behind all entries has none
pub find-last : (es : List Entry) (p : Position) (v : ℕ) → is_sorted pos_cmp (es ++ (p, v) ∷ []) ≡ true → find pos_cmp p es ≡ None
find-last [] p v h = refl
find-last (e ∷ es) p v h =
    let t = both_true _ _ h in
    rw (apart_above e.0 p (below_last e.0 p v es t.0)) (find-last es p v t.1)

pub get-last : (m : FinMap pos_cmp ℕ) (p : Position) (v : ℕ) → is_sorted pos_cmp (entries m ++ (p, v) ∷ []) ≡ true → get m p ≡ None
get-last m p v h = get-entries m p ∙ find-last (entries m) p v h

below_take : (x : Position) (n : ℕ) (es : List Entry) → below_all pos_cmp x es ≡ true → below_all pos_cmp x (take n es) ≡ true
below_take x zero es h = refl
below_take x (suc n) [] h = refl
below_take x (suc n) (e ∷ es) h = let t = both_true (is_lt (pos_cmp x e.0)) (below_all pos_cmp x es) h in rw (t.0, below_take x n es t.1) refl

-- the first entries ascend
pub take_ascend : (n : ℕ) (es : List Entry) → is_sorted pos_cmp es ≡ true → is_sorted pos_cmp (take n es) ≡ true
take_ascend zero es h = refl
take_ascend (suc n) [] h = refl
take_ascend (suc n) (e ∷ es) h = let t = both_true (below_all pos_cmp e.0 es) (is_sorted pos_cmp es) h in rw (below_take e.0 n es t.0, take_ascend n es t.1) refl

-- What `put_fault` says.

-- nothing stands against an entry
pub record Fits (g : Grid) (p : Position) : Type 0 where
  pub inside : IsInside g p
  pub absent : get g.cells p ≡ None
  pub capacity : len g.cells < limit

pub fits-put_fault : (g : Grid) (p : Position) → Fits g p → put_fault g p ≡ None
fits-put_fault g p h =
    let row = lt-ltb p.0 g.rows h.inside.0 in
    let column = lt-ltb p.1 g.columns h.inside.1 in
    let capacity : nat_le limit (len g.cells) ≡ false = lt-leb limit (len g.cells) h.capacity in
    rw (row, column, h.absent, capacity) refl

no_fault : (a b c d : Bool) → cond (not (a && b)) (Some IndexOutOfRange) (cond c (Some PositionGivenTwice) (cond d (Some TooManyEntries) None)) ≡ None → (a ≡ true) × (b ≡ true) × (c ≡ false) × (d ≡ false)
no_fault true true false false h = (refl, refl, refl, refl)
no_fault true true false true h = absurd (cc)
no_fault true true true d h = absurd (cc)
no_fault true false c d h = absurd (cc)
no_fault false b c d h = absurd (cc)

pub is_none : (o : Option ℕ) → is_some o ≡ false → o ≡ None
is_none None h = refl
is_none (Some v) h = absurd (cc)

-- What every matrix keeps.

pub empty-is_grid : (rows columns : ℕ) → rows ≤ limit → columns ≤ limit → IsGrid (record { rows = rows; columns = columns; cells = empty })
empty-is_grid rows columns a b =
    record {
      rows_small = a;
      columns_small = b;
      entries_small = let e = len-empty pos_cmp ℕ in omega arith;
      inside = λ p h. let e : get (empty {X = ℕ} {R = pos_cmp}) p ≡ None = get-empty pos_cmp p in absurd (cc);
      words = λ p v h. let e : get (empty {X = ℕ} {R = pos_cmp}) p ≡ None = get-empty pos_cmp p in absurd (cc);
    }

inside_more : (g : Grid) (p q : Position) (v : ℕ) (o : Ordering) → pos_cmp q p ≡ o → IsInside g p → (IsSome (get g.cells q) → IsInside g q) → IsSome (cond (is_eq o) (Some v) (get g.cells q)) → IsInside g q
inside_more g p q v Less e i f s = f s
inside_more g p q v Equal e i f s = subst (IsInside g) (sym (pos_exact q p e)) i
inside_more g p q v Greater e i f s = f s

words_more : (m : FinMap pos_cmp ℕ) (q : Position) (v w : ℕ) (b : Bool) → v < 2 ^ 64 → (get m q ≡ Some w → w < 2 ^ 64) → cond b (Some v) (get m q) ≡ Some w → w < 2 ^ 64
words_more m q v w true h f e = let same : v ≡ w = cc in omega arith
words_more m q v w false h f e = f e

-- each entry of a matrix is inside, and its value a word
pub entry_inside : (g : Grid) (k : ℕ) (d : Entry) → IsGrid g → k < length (entries g.cells) → IsInside g (get_or (entries g.cells) k d).0
entry_inside g k d h l = let e = get-entry g.cells k d l in h.inside (get_or (entries g.cells) k d).0 (cc)

pub entry_word : (g : Grid) (k : ℕ) (d : Entry) → IsGrid g → k < length (entries g.cells) → (get_or (entries g.cells) k d).1 < 2 ^ 64
entry_word g k d h l = h.words (get_or (entries g.cells) k d).0 (get_or (entries g.cells) k d).1 (get-entry g.cells k d l)

-- an entry that fits, with a word, keeps it
pub insert-is_grid : (g : Grid) (p : Position) (v : ℕ) → IsGrid g → Fits g p → v < 2 ^ 64 → IsGrid (record g { cells = insert g.cells p v })
insert-is_grid g p v h f w =
    record {
      rows_small = h.rows_small;
      columns_small = h.columns_small;
      entries_small = let n = len-insert_new g.cells p v f.absent in let r = f.capacity in omega arith;
      inside = λ q s. inside_more g p q v (pos_cmp q p) refl f.inside (h.inside q) (subst IsSome (get-insert pos_total g.cells p v q) s);
      words = λ q x e. words_more g.cells q v x (is_eq (pos_cmp q p)) w (h.words q x) (sym (get-insert pos_total g.cells p v q) ∙ e);
    }
