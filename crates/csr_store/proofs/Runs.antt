-- Runs of rows, by where each row ends.
use Rattle.std.proofs.Common.{◌≡◌, ◌≤◌, ◌<◌, ◌+◌, ◌-◌, ◌^◌, ℕ, zero, suc, true, List, [], ◌∷◌, ◌++◌, length, take, drop, replicate, refl, sym, ap, ◌∙◌, subst, arith, length-append, length-drop, append_assoc, append-nil}
use Rattle.std.specs.List.{AllByRecursion}
use Rattle.std.specs.FinMap.{is_sorted}
use Rattle.std.specs.FinMap.Entries.{below_all}
use Rattle.std.specs.Ordering.{nat_cmp, is_lt}
use Rattle.std.proofs.lemmas.List.{take-append-le, drop-append-le, take_all, drop_all}
use Rattle.std.proofs.lemmas.Bool.{lt-ltb}
use Rattle.csr_store.specs.Grid.{Cell}
use Rattle.csr_store.specs.Run.{Run, Row}
use Rattle.csr_store.specs.inner.Run.{IsRow, AreRows, AreEnds, ended_rows, open_row}
use Rattle.csr_store.proofs.Order.{both_true}

pub ends_below : (from : ℕ) (ends : List ℕ) (limit : ℕ) → AreEnds from ends limit → from ≤ limit
ends_below from [] limit h = h
ends_below from (to ∷ ends) limit h = let r = ends_below to ends limit h.1 in let s = h.0 in omega arith

pub ended_push : (from : ℕ) (ends : List ℕ) (cells : Row) (c : ℕ × ℕ) → AreEnds from ends (from + length cells) → ended_rows from ends (cells ++ c ∷ []) ≡ ended_rows from ends cells
ended_push from [] cells c h = refl
ended_push from (to ∷ ends) cells c h =
    let b = ends_below to ends _ h.1 in let a = h.0 in
    let l : to - from ≤ length cells = omega arith in
    let e : to + length (drop (to - from) cells) ≡ from + length cells = omega (arith, length-drop (to - from) cells) in
    let rest : ended_rows to ends (drop (to - from) cells ++ c ∷ []) ≡ ended_rows to ends (drop (to - from) cells) = ended_push to ends (drop (to - from) cells) c (rw e h.1) in
    ap (λ r. r ∷ ended_rows to ends (drop (to - from) (cells ++ c ∷ []))) (take-append-le (to - from) cells (c ∷ []) l)
    ∙ ap (λ r. take (to - from) cells ∷ r) (ap (ended_rows to ends) (drop-append-le (to - from) cells (c ∷ []) l) ∙ rest)

pub open_push : (from : ℕ) (ends : List ℕ) (cells : Row) (c : ℕ × ℕ) → AreEnds from ends (from + length cells) → open_row from ends (cells ++ c ∷ []) ≡ open_row from ends cells ++ c ∷ []
open_push from [] cells c h = refl
open_push from (to ∷ ends) cells c h =
    let b = ends_below to ends _ h.1 in let a = h.0 in
    let l : to - from ≤ length cells = omega arith in
    let e : to + length (drop (to - from) cells) ≡ from + length cells = omega (arith, length-drop (to - from) cells) in
    ap (open_row to ends) (drop-append-le (to - from) cells (c ∷ []) l) ∙ open_push to ends (drop (to - from) cells) c (rw e h.1)

pub ends_push : (from : ℕ) (ends : List ℕ) (n m : ℕ) → AreEnds from ends n → n ≤ m → AreEnds from ends m
ends_push from [] n m h l = omega arith
ends_push from (to ∷ ends) n m h l = (h.0, ends_push to ends n m h.1 l)

pub ended_more : (from : ℕ) (ends : List ℕ) (cells : Row) (n : ℕ) → AreEnds from ends n → n ≡ from + length cells → ended_rows from (ends ++ n ∷ []) cells ≡ ended_rows from ends cells ++ open_row from ends cells ∷ []
ended_more from [] cells n h e = ap (λ r. r ∷ []) (take_all (n - from) cells (omega arith))
ended_more from (to ∷ ends) cells n h e =
    let b = ends_below to ends _ h.1 in let a = h.0 in
    ap (λ r. take (to - from) cells ∷ r) (ended_more to ends (drop (to - from) cells) n h.1 (omega (arith, length-drop (to - from) cells)))

pub open_more : (from : ℕ) (ends : List ℕ) (cells : Row) (n : ℕ) → AreEnds from ends n → n ≡ from + length cells → open_row from (ends ++ n ∷ []) cells ≡ []
open_more from [] cells n h e = drop_all (n - from) cells (omega arith)
open_more from (to ∷ ends) cells n h e =
    let b = ends_below to ends _ h.1 in let a = h.0 in
    open_more to ends (drop (to - from) cells) n h.1 (omega (arith, length-drop (to - from) cells))

pub ends_more : (from : ℕ) (ends : List ℕ) (n : ℕ) → AreEnds from ends n → AreEnds from (ends ++ n ∷ []) n
ends_more from [] n h = (h, omega arith)
ends_more from (to ∷ ends) n h = (h.0, ends_more to ends n h.1)

pub all_push : {X : Type 0} (P : X → Type 0) (xs : List X) (x : X) → AllByRecursion P xs → P x → AllByRecursion P (xs ++ x ∷ [])
all_push P [] x h p = (p, tt)
all_push P (y ∷ ys) x h p = (h.0, all_push P ys x h.1 p)

less : (a b : ℕ) → a < b → is_lt (nat_cmp a b) ≡ true
less a b h = rw (lt-ltb a b h) refl

below_push : (x : ℕ) (row : Row) (c : ℕ × ℕ) → below_all nat_cmp x row ≡ true → x < c.0 → below_all nat_cmp x (row ++ c ∷ []) ≡ true
below_push x [] c h l = rw (less x c.0 l) refl
below_push x (e ∷ row) c h l = let b = both_true (is_lt (nat_cmp x e.0)) (below_all nat_cmp x row) h in rw (b.0, below_push x row c b.1 l) refl

sorted_push : (row : Row) (c : ℕ × ℕ) → is_sorted nat_cmp row ≡ true → AllByRecursion (λ (e : ℕ × ℕ). e.0 < c.0) row → is_sorted nat_cmp (row ++ c ∷ []) ≡ true
sorted_push [] c h l = refl
sorted_push (e ∷ row) c h l = let b = both_true (below_all nat_cmp e.0 row) (is_sorted nat_cmp row) h in rw (below_push e.0 row c b.0 l.0, sorted_push row c b.1 l.1) refl

pub row_push : (columns : ℕ) (row : Row) (c : Cell) → IsRow columns row → (c.0 < columns) × (c.1 < 2 ^ 64) → AllByRecursion (λ (e : Cell). e.0 < c.0) row → IsRow columns (row ++ c ∷ [])
row_push columns row c h l a = record { ascending = sorted_push row c h.ascending a; within = all_push (λ (e : Cell). (e.0 < columns) × (e.1 < 2 ^ 64)) row c h.within l }

pub row_none : (columns : ℕ) → IsRow columns []
row_none columns = record { ascending = refl; within = tt }

pub rows_push : (columns : ℕ) (ends : List ℕ) (cells : Row) (c : ℕ × ℕ) → AreRows columns ends cells → (c.0 < columns) × (c.1 < 2 ^ 64) → AllByRecursion (λ (e : ℕ × ℕ). e.0 < c.0) (open_row 0 ends cells) → AreRows columns ends (cells ++ c ∷ [])
rows_push columns ends cells c h l a =
    let z : length cells ≡ 0 + length cells = omega arith in
    let r : AreEnds 0 ends (0 + length cells) = rw z at h.ends_rise in
    record {
      ends_rise = ends_push 0 ends (length cells) (length (cells ++ c ∷ [])) h.ends_rise (omega (arith, length-append cells (c ∷ [])));
      ended_are = rw (ended_push 0 ends cells c r) h.ended_are;
      open_is = rw (open_push 0 ends cells c r) (row_push columns _ c h.open_is l a);
    }

pub rows_more : (columns : ℕ) (ends : List ℕ) (cells : Row) (n : ℕ) → AreRows columns ends cells → n ≡ length cells → AreRows columns (ends ++ n ∷ []) cells
rows_more columns ends cells n h e =
    let r : AreEnds 0 ends n = rw e h.ends_rise in
    record {
      ends_rise = rw (sym e) (ends_more 0 ends n r);
      ended_are = rw (ended_more 0 ends cells n r (omega arith)) (all_push (λ q. IsRow columns q) (ended_rows 0 ends cells) (open_row 0 ends cells) h.ended_are h.open_is);
      open_is = rw (open_more 0 ends cells n r (omega arith)) (row_none columns);
    }

pub length-ended : (from : ℕ) (ends : List ℕ) (cells : Row) → length (ended_rows from ends cells) ≡ length ends
length-ended from [] cells = refl
length-ended from (to ∷ ends) cells = ap suc (length-ended to ends (drop (to - from) cells))

abbrev pub run : ℕ → ℕ → List ℕ → Row → Run
run first columns ends cells = record { first = first; columns = columns; ended = ended_rows 0 ends cells; opened = open_row 0 ends cells }

abbrev pub with_entry : Run → ℕ × ℕ → Run
with_entry r c = record r { opened = r.opened ++ c ∷ [] }

abbrev pub with_end : Run → Run
with_end r = record r { ended = r.ended ++ r.opened ∷ []; opened = [] }

pub run_push : (first columns : ℕ) (ends : List ℕ) (cells more : Row) (c : ℕ × ℕ) (r : Run) → AreRows columns ends cells → more ≡ cells ++ c ∷ [] → run first columns ends cells ≡ r → run first columns ends more ≡ with_entry r c
run_push first columns ends cells more c r h m e =
    let z : length cells ≡ 0 + length cells = omega arith in
    let k : AreEnds 0 ends (0 + length cells) = rw z at h.ends_rise in
    ap (run first columns ends) m ∙ (rw (ended_push 0 ends cells c k, open_push 0 ends cells c k) refl ∙ ap (λ q. with_entry q c) e)

pub run_end : (first columns : ℕ) (ends more : List ℕ) (cells : Row) (n : ℕ) (r : Run) → AreRows columns ends cells → n ≡ length cells → more ≡ ends ++ n ∷ [] → run first columns ends cells ≡ r → run first columns more cells ≡ with_end r
run_end first columns ends more cells n r h l m e =
    let k : AreEnds 0 ends n = rw l h.ends_rise in
    ap (λ q. run first columns q cells) m ∙ (rw (ended_more 0 ends cells n k (omega arith), open_more 0 ends cells n k (omega arith)) refl ∙ ap with_end e)

-- ---- many rows without a cell

pub rows_blank : (columns n : ℕ) (ends : List ℕ) (cells : Row) (m : ℕ) → AreRows columns ends cells → m ≡ length cells → AreRows columns (ends ++ replicate n m) cells
rows_blank columns zero ends cells m h e = subst (λ (es : List ℕ). AreRows columns es cells) (sym (append-nil ends)) h
rows_blank columns (suc n) ends cells m h e =
    subst (λ (es : List ℕ). AreRows columns es cells) (append_assoc ends (m ∷ []) (replicate n m))
    (rows_blank columns n (ends ++ m ∷ []) cells m (rows_more columns ends cells m h e) e)

abbrev pub with_blank : ℕ → Run → Run
with_blank n r = record r { ended = r.ended ++ replicate n [] }

run_blanks : (first columns n : ℕ) (ends : List ℕ) (cells : Row) (m : ℕ) (r : Run) → AreRows columns ends cells → m ≡ length cells → r.opened ≡ []
    → run first columns ends cells ≡ r → run first columns (ends ++ replicate n m) cells ≡ with_blank n r
run_blanks first columns zero ends cells m r h l o e =
    ap (λ (es : List ℕ). run first columns es cells) (append-nil ends) ∙ (e ∙ ap (λ (rs : List Row). record r { ended = rs }) (sym (append-nil r.ended)))
run_blanks first columns (suc n) ends cells m r h l o e =
    ap (λ (es : List ℕ). run first columns es cells) (sym (append_assoc ends (m ∷ []) (replicate n m)))
    ∙ (run_blanks first columns n (ends ++ m ∷ []) cells m (with_end r) (rows_more columns ends cells m h l) l refl (run_end first columns ends (ends ++ m ∷ []) cells m r h l refl e)
    ∙ (ap (λ (os : Row). record r { ended = (r.ended ++ os ∷ []) ++ replicate n []; opened = [] }) o
    ∙ (ap (λ (os : Row). record r { ended = (r.ended ++ [] ∷ []) ++ replicate n []; opened = os }) (sym o)
    ∙ ap (λ (rs : List Row). record r { ended = rs }) (append_assoc r.ended ([] ∷ []) (replicate n [])))))

pub run_blank : (first columns n : ℕ) (ends more : List ℕ) (cells : Row) (m : ℕ) (r : Run) → AreRows columns ends cells → m ≡ length cells → r.opened ≡ []
    → more ≡ ends ++ replicate n m → run first columns ends cells ≡ r → run first columns more cells ≡ with_blank n r
run_blank first columns n ends more cells m r h l o k e =
    ap (λ (es : List ℕ). run first columns es cells) k ∙ run_blanks first columns n ends cells m r h l o e
