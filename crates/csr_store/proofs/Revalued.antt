-- Laws for those who give values to entries of a run: what other values leave as it was, and what may be added before or behind.
use Rattle.std.proofs.Common.{◌≡◌, ◌≤◌, ◌<◌, ◌+◌, ◌-◌, ℕ, zero, suc, Bool, true, false, nat_lt, ◌⊎◌, inl, inr, if◌then◌else◌, List, [], ◌∷◌, ◌++◌, length, length-append, refl, ap, arith}
use Rattle.std.specs.List.{AllByRecursion}
use Rattle.std.proofs.lemmas.Bool.{cases_lt, lt-ltb, le-ltb}
use Rattle.csr_store.specs.Grid.{Cell}
use Rattle.csr_store.specs.Run.{Run, Row}
use Rattle.csr_store.specs.Valued.{entries_in, entries_of, valued, valued_in, with_value}
use Rattle.csr_store.proofs.Runs.{with_entry, with_end}
use Rattle.csr_store.proofs.Valuing.{length-valued}

-- ---- one row

valued_front : (k v : ℕ) (row more : Row) → k < length row → valued k v (row ++ more) ≡ valued k v row ++ more
valued_front k v [] more h = elim h [ ]
valued_front zero v (c ∷ row) more h = refl
valued_front (suc k) v (c ∷ row) more h = ap (λ r. c ∷ r) (valued_front k v row more (omega arith))

valued_last : (x w v : ℕ) (row : Row) → valued (length row) v (row ++ (x, w) ∷ []) ≡ row ++ (x, v) ∷ []
valued_last x w v [] = refl
valued_last x w v (c ∷ row) = ap (λ r. c ∷ r) (valued_last x w v row)

below_valued : (low k v : ℕ) (row : Row) → AllByRecursion (λ (c : Cell). c.0 < low) row → AllByRecursion (λ (c : Cell). c.0 < low) (valued k v row)
below_valued low k v [] h = tt
below_valued low zero v (c ∷ row) h = h
below_valued low (suc k) v (c ∷ row) h = (h.0, below_valued low k v row h.1)

below_before : (low k v : ℕ) (row : Row) → AllByRecursion (λ (c : Cell). c.0 < low) (valued k v row) → AllByRecursion (λ (c : Cell). c.0 < low) row
below_before low k v [] h = tt
below_before low zero v (c ∷ row) h = h
below_before low (suc k) v (c ∷ row) h = (h.0, below_before low k v row h.1)

-- ---- rows that follow one another

entries_more : (rows : List Row) (row : Row) → entries_in (rows ++ row ∷ []) ≡ entries_in rows + length row
entries_more [] row = omega arith
entries_more (r ∷ rows) row = omega (arith, entries_more rows row)

entries_valued : (k v : ℕ) (rows : List Row) → entries_in (valued_in k v rows) ≡ entries_in rows
entries_valued k v [] = refl
entries_valued k v (row ∷ rows) = by_place (entries_valued (k - length row) v rows) (nat_lt k (length row))
  where
    by_place : entries_in (valued_in (k - length row) v rows) ≡ entries_in rows → (b : Bool)
        → entries_in (if b then valued k v row ∷ rows else row ∷ valued_in (k - length row) v rows) ≡ length row + entries_in rows
    by_place e true = ap (λ n. n + entries_in rows) (length-valued k v row)
    by_place e false = ap (λ n. length row + n) e

valued_in_front : (k v : ℕ) (rows more : List Row) → k < entries_in rows → valued_in k v (rows ++ more) ≡ valued_in k v rows ++ more
valued_in_front k v [] more h = elim h [ ]
valued_in_front k v (row ∷ rows) more h = by_place (valued_in_front (k - length row) v rows more) (cases_lt k (length row))
  where
    by_place : (k - length row < entries_in rows → valued_in (k - length row) v (rows ++ more) ≡ valued_in (k - length row) v rows ++ more)
        → (k < length row) ⊎ (length row ≤ k) → valued_in k v (row ∷ (rows ++ more)) ≡ valued_in k v (row ∷ rows) ++ more
    by_place f (inl l) = rw (lt-ltb k (length row) l) refl
    by_place f (inr g) = rw (le-ltb k (length row) g) (ap (λ rs. row ∷ rs) (f (omega arith)))

valued_in_behind : (k v : ℕ) (rows : List Row) (row : Row) → entries_in rows ≤ k → k - entries_in rows < length row
    → valued_in k v (rows ++ row ∷ []) ≡ rows ++ valued (k - entries_in rows) v row ∷ []
valued_in_behind k v [] row h l =
    let z : k - 0 ≡ k = omega arith in
    rw (z, lt-ltb k (length row) (omega arith)) refl
valued_in_behind k v (r ∷ rows) row h l =
    let z : k - (length r + entries_in rows) ≡ k - length r - entries_in rows = omega arith in
    rw (le-ltb k (length r) (omega arith), z) (ap (λ rs. r ∷ rs) (valued_in_behind (k - length r) v rows row (omega arith) (omega arith)))

valued_in_none : (k v : ℕ) (rows : List Row) → entries_in rows ≤ k → valued_in k v rows ≡ rows
valued_in_none k v [] h = refl
valued_in_none k v (row ∷ rows) h = rw (le-ltb k (length row) (omega arith)) (ap (λ rs. row ∷ rs) (valued_in_none (k - length row) v rows (omega arith)))

-- ---- a run

pub entries_push : (run : Run) (c : ℕ × ℕ) → entries_of (with_entry run c) ≡ entries_of run + 1
entries_push run c = omega (arith, length-append run.opened (c ∷ []))

pub entries_end : (run : Run) → entries_of (with_end run) ≡ entries_of run
entries_end run = omega (arith, entries_more run.ended run.opened)

pub entries_with_value : (k v : ℕ) (run : Run) → entries_of (with_value k v run) ≡ entries_of run
entries_with_value k v run = omega (arith, entries_valued k v run.ended, by_place (nat_lt k (entries_in run.ended)))
  where
    by_place : (b : Bool) → length (if b then run.opened else valued (k - entries_in run.ended) v run.opened) ≡ length run.opened
    by_place true = refl
    by_place false = length-valued (k - entries_in run.ended) v run.opened

pub below_without_value : (low k v : ℕ) (run : Run) → AllByRecursion (λ (c : Cell). c.0 < low) (with_value k v run).opened
    → AllByRecursion (λ (c : Cell). c.0 < low) run.opened
below_without_value low k v run h = by_place (nat_lt k (entries_in run.ended)) h
  where
    by_place : (b : Bool) → AllByRecursion (λ (c : Cell). c.0 < low) (if b then run.opened else valued (k - entries_in run.ended) v run.opened)
        → AllByRecursion (λ (c : Cell). c.0 < low) run.opened
    by_place true h = h
    by_place false h = below_before low (k - entries_in run.ended) v run.opened h

-- an entry that is added behind
pub with_value_push : (k v : ℕ) (run : Run) (c : ℕ × ℕ) → k < entries_of run → with_value k v (with_entry run c) ≡ with_entry (with_value k v run) c
with_value_push k v run c h = ap (λ os. record run { ended = valued_in k v run.ended; opened = os }) (by_place (cases_lt k (entries_in run.ended)))
  where
    by_place : (k < entries_in run.ended) ⊎ (entries_in run.ended ≤ k)
        → (if nat_lt k (entries_in run.ended) then run.opened ++ c ∷ [] else valued (k - entries_in run.ended) v (run.opened ++ c ∷ []))
        ≡ (if nat_lt k (entries_in run.ended) then run.opened else valued (k - entries_in run.ended) v run.opened) ++ c ∷ []
    by_place (inl l) = rw (lt-ltb k (entries_in run.ended) l) refl
    by_place (inr g) = rw (le-ltb k (entries_in run.ended) g) (valued_front (k - entries_in run.ended) v run.opened (c ∷ []) (omega arith))

-- the entry that was added last
pub with_value_last : (x w v : ℕ) (run : Run) → with_value (entries_of run) v (with_entry run (x, w)) ≡ with_entry run (x, v)
with_value_last x w v run =
    let z : entries_of run - entries_in run.ended ≡ length run.opened = omega arith in
    rw (valued_in_none (entries_of run) v run.ended (omega arith), le-ltb (entries_of run) (entries_in run.ended) (omega arith), z, valued_last x w v run.opened) refl

-- the open row ends behind
pub with_value_end : (k v : ℕ) (run : Run) → k < entries_of run → with_value k v (with_end run) ≡ with_end (with_value k v run)
with_value_end k v run h = by_place (cases_lt k (entries_in run.ended))
  where
    nothing : (b : Bool) (j : ℕ) → (if b then [] else valued j v []) ≡ []
    nothing true j = refl
    nothing false j = refl

    by_place : (k < entries_in run.ended) ⊎ (entries_in run.ended ≤ k) → with_value k v (with_end run) ≡ with_end (with_value k v run)
    by_place (inl l) = rw (lt-ltb k (entries_in run.ended) l, valued_in_front k v run.ended (run.opened ∷ []) l, nothing (nat_lt k (entries_in (run.ended ++ run.opened ∷ []))) (k - entries_in (run.ended ++ run.opened ∷ []))) refl
    by_place (inr g) = rw (le-ltb k (entries_in run.ended) g, valued_in_none k v run.ended g, valued_in_behind k v run.ended run.opened g (omega arith), nothing (nat_lt k (entries_in (run.ended ++ run.opened ∷ []))) (k - entries_in (run.ended ++ run.opened ∷ []))) refl
