-- What a builder keeps: entries that came in ascending order, and the others, as one list and one map.
use Rattle.std.proofs.Common.{◌≡◌, ◌≤◌, ◌<◌, ◌+◌, ◌^◌, zero, suc, ℕ, true, false, cond, List, [], ◌∷◌, ◌++◌, Option, None, Some, IsSome, is_some, length, get_or, refl, sym, ap, ◌∙◌, subst, arith, append_assoc, length-append}
use Rattle.std.specs.Prelude.{◌&&◌, nat_le, nat_lt}
use Rattle.std.proofs.lemmas.Bool.{lt-ltb, le-leb}
use Rattle.std.proofs.lemmas.Bool.Decides.{nat_tests}
use Rattle.std.specs.List.{AllByRecursion, Contains, IsDistinct}
use Rattle.std.specs.List.Sorted.{IsPermutation}
use Rattle.std.proofs.lemmas.List.Sorted.{IsPermutation-refl, IsPermutation-trans, IsPermutation-sym, IsPermutation-cons, IsPermutation-middle, IsPermutation-to_front, IsPermutation-append_right, Contains-permutation, length_permutation}
use Rattle.std.specs.declared.cmp.Ordering.TheVariants.{Less, Equal, Greater}
use Rattle.std.specs.Cmp.{tied_itself, eq_by_cmp_equiv}
use Rattle.std.specs.Ordering.{is_eq, eq_by_cmp, match_ordering}
use Rattle.std.specs.BTreeMap.{is_at, insert_entry}
use Rattle.std.specs.Map.{keys_of, lookup}
use Rattle.std.specs.FinMap.{empty, get, insert, is_sorted, len, len-entries, from_entries, get-from_entries}
use Rattle.std.specs.FinMap.Entries.{find}
use Rattle.csr_store.specs.declared.error.StoreError.TheVariants.{PositionGivenTwice, TooManyEntries}
use Rattle.csr_store.specs.Grid.{Grid, IsGrid, Position, Entry, pos_cmp, limit}
use Rattle.csr_store.specs.Refusal.{put_fault}
use Rattle.csr_store.specs.ByRows.{grid}
use Rattle.csr_store.specs.Listed.{Listed, NoneTwice}
use Rattle.csr_store.specs.inner.Collected.{IsCollected}
use Rattle.csr_store.proofs.Order.{pos_total, both_true}
use Rattle.csr_store.proofs.Laws.{Fits, same_values, same_entries, entries-from_entries, entries-empty, len-insert_new, insert-is_grid, empty-is_grid}
use Rattle.csr_store.proofs.Listing.{once_more, map_with_entry}
use Rattle.csr_store.proofs.Shuffled.{find_contains}
use Rattle.csr_store.proofs.Packing.{once_shuffled}

-- ---- the order of entries doesn't matter to their map

apart_each : (p : Position) (es : List Entry) (k : ℕ) (d : Entry) → AllByRecursion (λ r. eq_by_cmp pos_cmp p r ≡ false) (keys_of es) → k < length es → eq_by_cmp pos_cmp p (get_or es k d).0 ≡ false
apart_each p [] k d h l = absurd (omega arith)
apart_each p (e ∷ es) zero d h l = h.0
apart_each p (e ∷ es) (suc k) d h l = apart_each p es k d h.1 (omega arith)

-- each entry is found
found_once : (es : List Entry) (k : ℕ) (d : Entry) → NoneTwice es → k < length es → find pos_cmp (get_or es k d).0 es ≡ Some (get_or es k d).1
unfolding IsDistinct
found_once [] k d h l = absurd (omega arith)
found_once (e ∷ es) zero d h l = ap (λ o. cond (is_eq o) (Some e.1) (find pos_cmp e.0 es)) (tied_itself pos_total e.0)
found_once (e ∷ es) (suc k) d h l =
    ap (λ b. cond b (Some e.1) (find pos_cmp (get_or es k d).0 es)) ((eq_by_cmp_equiv pos_total).symm (get_or es k d).0 e.0 ∙ apart_each e.0 es k d h.0 (omega arith))
    ∙ found_once es k d h.1 (omega arith)

contains_found : (es : List Entry) (q : Position) (v : ℕ) → NoneTwice es → Contains es (q, v) → find pos_cmp q es ≡ Some v
contains_found es q v h c =
    ap (λ (x : Entry). find pos_cmp x.0 es) (sym c.2) ∙ (found_once es c.0 (q, v) h c.1 ∙ ap (λ (x : Entry). Some x.1) c.2)

pub same_once : (xs ys : List Entry) → IsPermutation xs ys → NoneTwice xs → from_entries {R = pos_cmp} ys ≡ from_entries xs
same_once xs ys p once = same_values _ _ (λ q. get-from_entries pos_total ys q ∙ (there q (find pos_cmp q ys) (find pos_cmp q xs) refl refl ∙ sym (get-from_entries pos_total xs q)))
  where
    moved : NoneTwice ys
    moved = once_shuffled xs ys p once

    there : (q : Position) (o r : Option ℕ) → find pos_cmp q ys ≡ o → find pos_cmp q xs ≡ r → find pos_cmp q ys ≡ find pos_cmp q xs
    there q (Some v) r e f = e ∙ sym (contains_found xs q v once (Contains-permutation ys xs (q, v) (IsPermutation-sym xs ys p) (find_contains ys q v e)))
    there q None (Some w) e f = absurd (let g = contains_found ys q w moved (Contains-permutation xs ys (q, w) p (find_contains xs q w f)) in let n : None ≡ Some w = sym e ∙ g in cc)
    there q None None e f = e ∙ sym f

-- ---- an entry more

-- what an ordered map has at a position
abbrev pub value_at : List Entry → Position → Option ℕ
value_at es q = lookup (is_at (pos_cmp q)) es

find_at : (es : List Entry) (q : Position) → find pos_cmp q es ≡ value_at es q
find_at [] q = refl
find_at (e ∷ es) q = ap (cond (is_at (pos_cmp q) e.0) (Some e.1)) (find_at es q)

-- behind the first list
pub pushed : (xs os : List Entry) (e : Entry) → IsPermutation ((xs ++ os) ++ e ∷ []) ((xs ++ e ∷ []) ++ os)
pushed xs os e =
    subst (λ (ys : List Entry). IsPermutation ys ((xs ++ e ∷ []) ++ os)) (sym (append_assoc xs os (e ∷ [])))
    (subst (λ (ys : List Entry). IsPermutation (xs ++ (os ++ e ∷ [])) ys) (sym (append_assoc xs (e ∷ []) os)) (IsPermutation-append_right xs (os ++ e ∷ []) (e ∷ os) (IsPermutation-to_front os e)))

-- at its place in an ordered map
inserted : (es : List Entry) (p : Position) (v : ℕ) → value_at es p ≡ None → IsPermutation ((p, v) ∷ es) (insert_entry pos_cmp es p v)
inserted [] p v n = IsPermutation-refl ((p, v) ∷ [])
inserted (e ∷ es) p v n =
    elim (pos_cmp p e.0) as (λ o. cond (is_eq o) (Some e.1) (value_at es p) ≡ None → IsPermutation ((p, v) ∷ e ∷ es) (match_ordering o ((p, v) ∷ e ∷ es) ((e.0, v) ∷ es) (e ∷ insert_entry pos_cmp es p v))) [
      | Less ↦ λ h. IsPermutation-refl ((p, v) ∷ e ∷ es)
      | Equal ↦ λ h. absurd (cc)
      | Greater ↦ λ h.
          IsPermutation-trans ((p, v) ∷ e ∷ es) (e ∷ (p, v) ∷ es) (e ∷ insert_entry pos_cmp es p v)
          (IsPermutation-sym (e ∷ (p, v) ∷ es) ((p, v) ∷ e ∷ es) (IsPermutation-middle (e ∷ []) (p, v) es))
          (IsPermutation-cons e ((p, v) ∷ es) (insert_entry pos_cmp es p v) (inserted es p v h))
    ] n

pub put_between : (xs os : List Entry) (p : Position) (v : ℕ) → value_at os p ≡ None → IsPermutation ((xs ++ os) ++ (p, v) ∷ []) (xs ++ insert_entry pos_cmp os p v)
put_between xs os p v n =
    subst (λ (ys : List Entry). IsPermutation ys (xs ++ insert_entry pos_cmp os p v)) (sym (append_assoc xs os ((p, v) ∷ [])))
    (IsPermutation-append_right xs (os ++ (p, v) ∷ []) (insert_entry pos_cmp os p v)
    (IsPermutation-trans (os ++ (p, v) ∷ []) ((p, v) ∷ os) (insert_entry pos_cmp os p v) (IsPermutation-to_front os (p, v)) (inserted os p v n)))

-- ---- what `put` finds is what `put_fault` says

-- the first of two answers
abbrev first_of_two : Option ℕ → Option ℕ → Option ℕ
first_of_two (Some v) o = Some v
first_of_two None o = o

find_both : (xs ys : List Entry) (q : Position) → find pos_cmp q (xs ++ ys) ≡ first_of_two (find pos_cmp q xs) (find pos_cmp q ys)
find_both [] ys q = refl
find_both (e ∷ xs) ys q =
    elim (is_eq (pos_cmp q e.0)) as (λ b. cond b (Some e.1) (find pos_cmp q (xs ++ ys)) ≡ first_of_two (cond b (Some e.1) (find pos_cmp q xs)) (find pos_cmp q ys)) [
      | true ↦ refl
      | false ↦ find_both xs ys q
    ]

abbrev pub collected : Listed → List Entry → Grid
collected l os = grid l.rows l.columns (l.entries ++ os)

abbrev pub with_entry : Grid → Position → ℕ → Grid
with_entry g p v = record g { cells = insert g.cells p v }

pub less : (a b : ℕ) → nat_lt a b ≡ true → a < b
less a b h = grind (arith, nat_tests)

-- a position inside the sizes
pub spanned : (l : Listed) (row column : ℕ) → (nat_lt row l.rows && nat_lt column l.columns) ≡ true → (row < l.rows) × (column < l.columns)
spanned l row column e = let t = both_true (nat_lt row l.rows) (nat_lt column l.columns) e in (less row l.rows t.0, less column l.columns t.1)

module _ (l : Listed) (os : List Entry) (h : IsCollected l os) where
  abbrev all : List Entry
  all = l.entries ++ os

  get_all : (q : Position) → get (from_entries {R = pos_cmp} all) q ≡ first_of_two (find pos_cmp q l.entries) (value_at os q)
  get_all q = get-from_entries pos_total all q ∙ find_both l.entries os q ∙ ap (first_of_two (find pos_cmp q l.entries)) (find_at os q)

  -- the entries that have a position make the matrix, whatever their order
  pub same_merged : (fs : List Entry) → IsPermutation all fs → grid l.rows l.columns fs ≡ collected l os
  same_merged fs p = ap (λ m. let g : Grid = record { rows = l.rows; columns = l.columns; cells = m } in g) (same_once all fs p h.once)

  -- each is inside the sizes
  pub each_inside : (k : ℕ) (d : Entry) → k < length all → ((get_or all k d).0.0 < l.rows) × ((get_or all k d).0.1 < l.columns) × ((get_or all k d).1 < 2 ^ 64)
  each_inside k d n =
      let found : get (from_entries {R = pos_cmp} all) (get_or all k d).0 ≡ Some (get_or all k d).1 = get-from_entries pos_total all (get_or all k d).0 ∙ found_once all k d h.once n in
      let inside = h.is_grid.inside (get_or all k d).0 (subst (λ (o : Option ℕ). IsSome o) (sym found) refl) in
      (inside.0, inside.1, h.is_grid.words (get_or all k d).0 (get_or all k d).1 found)

  pub few : length l.entries + length os ≤ limit
  few = let c = h.count in let s = h.is_grid.entries_small in omega (arith, length-append l.entries os)

  module _ (p : Position) (row : p.0 < l.rows) (column : p.1 < l.columns) where
    pub first_twice : is_some (find pos_cmp p l.entries) ≡ true → put_fault (collected l os) p ≡ Some PositionGivenTwice
    first_twice e = rw (lt-ltb p.0 l.rows row, lt-ltb p.1 l.columns column, ap is_some (get_all p) ∙ found (find pos_cmp p l.entries) e) refl
      where
        found : (o : Option ℕ) → is_some o ≡ true → is_some (first_of_two o (value_at os p)) ≡ true
        found (Some v) k = refl
        found None k = absurd (cc)

    pub second_twice : is_some (value_at os p) ≡ true → put_fault (collected l os) p ≡ Some PositionGivenTwice
    second_twice e = rw (lt-ltb p.0 l.rows row, lt-ltb p.1 l.columns column, ap is_some (get_all p) ∙ found (find pos_cmp p l.entries)) refl
      where
        found : (o : Option ℕ) → is_some (first_of_two o (value_at os p)) ≡ true
        found (Some v) = refl
        found None = e

    module _ (first : find pos_cmp p l.entries ≡ None) (second : value_at os p ≡ None) where
      absent : get (from_entries {R = pos_cmp} all) p ≡ None
      absent = get_all p ∙ ap (λ o. first_of_two o (value_at os p)) first ∙ second

      pub too_many : limit ≤ length l.entries + length os → put_fault (collected l os) p ≡ Some TooManyEntries
      too_many n =
          let many : nat_le limit (len (from_entries {R = pos_cmp} all)) ≡ true = le-leb _ _ (let c = h.count in omega (arith, length-append l.entries os)) in
          rw (lt-ltb p.0 l.rows row, lt-ltb p.1 l.columns column, absent, many) refl

      pub fits : length l.entries + length os < limit → Fits (collected l os) p
      fits n = record { inside = (row, column); absent = absent; capacity = let c = h.count in omega (arith, length-append l.entries os) }

  -- an entry more in the one list or the other
  module _ (p : Position) (v : ℕ) (f : Fits (collected l os) p) (w : v < 2 ^ 64) (ps fs : List Entry) (m : IsPermutation (all ++ (p, v) ∷ []) (ps ++ fs)) where
    once_then : NoneTwice (all ++ (p, v) ∷ [])
    once_then = once_more all p v h.once f.absent

    more_is : from_entries {R = pos_cmp} (ps ++ fs) ≡ insert (from_entries all) p v
    more_is = same_once (all ++ (p, v) ∷ []) (ps ++ fs) m once_then ∙ map_with_entry all p v once_then

    more_here : grid l.rows l.columns (ps ++ fs) ≡ with_entry (collected l os) p v
    more_here = ap (λ n. let g : Grid = record { rows = l.rows; columns = l.columns; cells = n } in g) more_is

    more_count : length (ps ++ fs) ≡ length all + 1
    more_count = length_permutation (all ++ (p, v) ∷ []) (ps ++ fs) m ∙ length-append all ((p, v) ∷ [])

    pub more_collected : (new : Listed) → new ≡ record l { entries = ps } → is_sorted pos_cmp ps ≡ true → IsCollected new fs
    more_collected new e s =
        rw e (record {
          rises = s;
          once = once_shuffled (all ++ (p, v) ∷ []) (ps ++ fs) m once_then;
          count = ap len more_is ∙ len-insert_new (from_entries all) p v f.absent ∙ (let c = h.count in let n = more_count in omega arith);
          is_grid = subst (λ (g : Grid). IsGrid g) (sym more_here) (insert-is_grid (collected l os) p v h.is_grid f w);
        })

    pub more_same : (new : Listed) → new ≡ record l { entries = ps } → collected new fs ≡ with_entry (collected l os) p v
    more_same new e = ap (λ (x : Listed). collected x fs) e ∙ more_here

-- ---- no entry

none_is : from_entries {X = ℕ} {R = pos_cmp} [] ≡ empty
none_is = same_entries _ _ (entries-from_entries [] refl ∙ sym entries-empty)

pub collected_none : (l : Listed) (os : List Entry) (rows columns : ℕ) → rows ≤ limit → columns ≤ limit → l ≡ record { rows = rows; columns = columns; entries = [] } → os ≡ [] → IsCollected l os
unfolding IsDistinct
collected_none l os rows columns r c e f =
    rw (e, f) (record {
      rises = refl;
      once = tt;
      count = len-entries (from_entries {X = ℕ} {R = pos_cmp} []) ∙ ap length (entries-from_entries [] refl);
      is_grid = subst (λ m. let g : Grid = record { rows = rows; columns = columns; cells = m } in IsGrid g) (sym none_is) (empty-is_grid rows columns r c);
    })
