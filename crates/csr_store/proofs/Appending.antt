-- Cells added to an open row that has none, many at a time.
use Rattle.std.proofs.Common.{◌≡◌, ◌≤◌, ◌<◌, ◌+◌, ◌-◌, ◌^◌, ℕ, zero, suc, Bool, true, false, nat_eq, if◌then◌else◌, List, [], ◌∷◌, ◌++◌, length, take, drop, get_or, refl, sym, ap, ◌∙◌, subst, arith, length-append, length-drop, append-nil, append_assoc}
use Rattle.std.specs.List.{AllByRecursion}
use Rattle.std.proofs.lemmas.List.{take-append-le, drop-append-le, take_all, drop_all, drop_more}
use Rattle.csr_store.specs.Grid.{Cell}
use Rattle.csr_store.specs.Ascending.{Ascends}
use Rattle.csr_store.specs.Added.{kept_where}
use Rattle.csr_store.proofs.Along.{ascends-weaken}
use Rattle.csr_store.specs.Run.{Run, Row}
use Rattle.csr_store.specs.inner.Selected.{kept_count}
use Rattle.csr_store.specs.inner.Run.{IsRow, AreRows, AreEnds, ended_rows, open_row}
use Rattle.csr_store.proofs.Runs.{ends_below, ends_push, all_push, row_push, row_none, run}

ended_append : (from : ℕ) (ends : List ℕ) (cells more : Row) → AreEnds from ends (from + length cells) → ended_rows from ends (cells ++ more) ≡ ended_rows from ends cells
ended_append from [] cells more h = refl
ended_append from (to ∷ ends) cells more h =
    let b = ends_below to ends _ h.1 in let a = h.0 in
    let l : to - from ≤ length cells = omega arith in
    let e : to + length (drop (to - from) cells) ≡ from + length cells = omega (arith, length-drop (to - from) cells) in
    ap (λ r. r ∷ ended_rows to ends (drop (to - from) (cells ++ more))) (take-append-le (to - from) cells more l)
    ∙ ap (λ r. take (to - from) cells ∷ r) (ap (ended_rows to ends) (drop-append-le (to - from) cells more l) ∙ ended_append to ends (drop (to - from) cells) more (rw e h.1))

open_append : (from : ℕ) (ends : List ℕ) (cells more : Row) → AreEnds from ends (from + length cells) → open_row from ends (cells ++ more) ≡ open_row from ends cells ++ more
open_append from [] cells more h = refl
open_append from (to ∷ ends) cells more h =
    let b = ends_below to ends _ h.1 in let a = h.0 in
    let l : to - from ≤ length cells = omega arith in
    let e : to + length (drop (to - from) cells) ≡ from + length cells = omega (arith, length-drop (to - from) cells) in
    ap (open_row to ends) (drop-append-le (to - from) cells more l) ∙ open_append to ends (drop (to - from) cells) more (rw e h.1)

-- columns below a bound are below a higher one
all_below : (low high : ℕ) (row : Row) → low ≤ high → AllByRecursion (λ (c : Cell). c.0 < low) row → AllByRecursion (λ (c : Cell). c.0 < high) row
all_below low high [] l h = tt
all_below low high (c ∷ row) l h = (let b = h.0 in omega arith, all_below low high row l h.1)

row_append : (columns low : ℕ) (row more : Row) → IsRow columns row → AllByRecursion (λ (c : Cell). c.0 < low) row → Ascends low columns more
    → AllByRecursion (λ (c : Cell). c.1 < 2 ^ 64) more → IsRow columns (row ++ more)
row_append columns low row [] h a b w = subst (IsRow columns) (sym (append-nil row)) h
row_append columns low row (c ∷ more) h a b w =
    let below = all_below low c.0 row b.0 a in
    subst (IsRow columns) (append_assoc row (c ∷ []) more)
    (row_append columns (suc c.0) (row ++ c ∷ []) more (row_push columns row c h (b.1, w.0) below)
    (all_push (λ (d : Cell). d.0 < suc c.0) row c (all_below c.0 (suc c.0) row (omega arith) below) (omega arith)) b.2 w.1)

pub rows_append : (columns : ℕ) (ends : List ℕ) (cells more : Row) → AreRows columns ends cells → open_row 0 ends cells ≡ [] → Ascends 0 columns more
    → AllByRecursion (λ (c : Cell). c.1 < 2 ^ 64) more → AreRows columns ends (cells ++ more)
rows_append columns ends cells more h none a w =
    let z : length cells ≡ 0 + length cells = omega arith in
    let r : AreEnds 0 ends (0 + length cells) = rw z at h.ends_rise in
    record {
      ends_rise = ends_push 0 ends (length cells) (length (cells ++ more)) h.ends_rise (omega (arith, length-append cells more));
      ended_are = rw (ended_append 0 ends cells more r) h.ended_are;
      open_is = rw (open_append 0 ends cells more r, none) (row_append columns 0 [] more (row_none columns) tt a w);
    }

pub run_append : (first columns : ℕ) (ends : List ℕ) (cells now more : Row) (r : Run) → AreRows columns ends cells → now ≡ cells ++ more → run first columns ends cells ≡ r
    → run first columns ends now ≡ record r { opened = r.opened ++ more }
run_append first columns ends cells now more r h m e =
    let z : length cells ≡ 0 + length cells = omega arith in
    let k : AreEnds 0 ends (0 + length cells) = rw z at h.ends_rise in
    ap (run first columns ends) m ∙ (rw (ended_append 0 ends cells more k, open_append 0 ends cells more k) refl ∙ ap (λ (q : Run). record q { opened = q.opened ++ more }) e)

-- ---- those that are kept come behind as the cells do

kept_or_left : (low n : ℕ) (c : Cell) (more : Row) → low ≤ c.0 → c.0 < n → Ascends (suc c.0) n more → (b : Bool) → Ascends low n (if b then more else c ∷ more)
kept_or_left low n c more l m h true = ascends-weaken low (suc c.0) n more (omega arith) h
kept_or_left low n c more l m h false = (l, m, h)

pub ascends_kept : (low n : ℕ) (cells : Row) (answers : List ℕ) → Ascends low n cells → Ascends low n (kept_where cells answers)
ascends_kept low n [] answers h = tt
ascends_kept low n (c ∷ cells) [] h = tt
ascends_kept low n (c ∷ cells) (a ∷ answers) h = kept_or_left low n c (kept_where cells answers) h.0 h.1 (ascends_kept (suc c.0) n cells answers h.2) (nat_eq a 0)

word_or_left : (c : Cell) (more : Row) → c.1 < 2 ^ 64 → AllByRecursion (λ (d : Cell). d.1 < 2 ^ 64) more → (b : Bool) → AllByRecursion (λ (d : Cell). d.1 < 2 ^ 64) (if b then more else c ∷ more)
word_or_left c more w h true = h
word_or_left c more w h false = (w, h)

pub kept_words : (cells : Row) (answers : List ℕ) → AllByRecursion (λ (c : Cell). c.1 < 2 ^ 64) cells → AllByRecursion (λ (c : Cell). c.1 < 2 ^ 64) (kept_where cells answers)
kept_words [] answers h = tt
kept_words (c ∷ cells) [] h = tt
kept_words (c ∷ cells) (a ∷ answers) h = word_or_left c (kept_where cells answers) h.0 (kept_words cells answers h.1) (nat_eq a 0)

all_taken : {X : Type 0} (P : X → Type 0) (xs : List X) (k : ℕ) (d : X) → k < length xs → AllByRecursion P (take k xs) → P (get_or xs k d) → AllByRecursion P (take (suc k) xs)
all_taken P [] k d l h p = absurd (omega arith)
all_taken P (x ∷ xs) zero d l h p = (p, tt)
all_taken P (x ∷ xs) (suc k) d l h p = (h.0, all_taken P xs k d (omega arith) h.1 p)

-- ---- cells kept one by one

pub record AreKept (cells : Row) (answers : List ℕ) (start : Row) (k next : ℕ) (now : Row) (capacity : ℕ) : Type 0 where
  pub same : now ++ kept_where (drop k cells) (drop k answers) ≡ start ++ kept_where cells answers
  pub words : AllByRecursion (λ (c : Cell). c.1 < 2 ^ 64) (take k cells)
  pub fits : k < length cells → length now + kept_count (drop k answers) < capacity
  pub at : next ≡ k

pub are_kept_none : (cells : Row) (answers : List ℕ) (start : Row) (capacity : ℕ) → (0 < length cells → length start + kept_count answers < capacity) → AreKept cells answers start 0 0 start capacity
are_kept_none cells answers start capacity h = record { same = refl; words = tt; fits = h; at = refl }

module _ (cells : Row) (answers : List ℕ) (start : Row) (k next : ℕ) (now : Row) (capacity : ℕ) (h : AreKept cells answers start k next now capacity)
    (l : k < length cells) (n : length answers ≡ length cells) where
  kept_here : kept_count (drop k answers) ≡ (if nat_eq (get_or answers k 0) 0 then kept_count (drop (k + 1) answers) else suc (kept_count (drop (k + 1) answers)))
  kept_here = ap kept_count (drop_more answers k 0 (omega arith))

module _ (cells : Row) (answers : List ℕ) (start : Row) (k next : ℕ) (now : Row) (capacity : ℕ) (d : Cell) (h : AreKept cells answers start k next now capacity)
    (l : k < length cells) (n : length answers ≡ length cells) (w : (get_or cells k d).1 < 2 ^ 64) where
  here : kept_where (drop k cells) (drop k answers) ≡ kept_where (get_or cells k d ∷ drop (k + 1) cells) (get_or answers k 0 ∷ drop (k + 1) answers)
  here = ap (λ cs. kept_where cs (drop k answers)) (drop_more cells k d l) ∙ ap (kept_where (get_or cells k d ∷ drop (k + 1) cells)) (drop_more answers k 0 (omega arith))

  taken : AllByRecursion (λ (c : Cell). c.1 < 2 ^ 64) (take (k + 1) cells)
  taken = let e : suc k ≡ k + 1 = omega arith in subst (λ m. AllByRecursion (λ (c : Cell). c.1 < 2 ^ 64) (take m cells)) e (all_taken (λ (c : Cell). c.1 < 2 ^ 64) cells k d l h.words w)

  chosen : (b : Bool) → nat_eq (get_or answers k 0) 0 ≡ b
      → now ++ (if b then kept_where (drop (k + 1) cells) (drop (k + 1) answers) else get_or cells k d ∷ kept_where (drop (k + 1) cells) (drop (k + 1) answers)) ≡ start ++ kept_where cells answers
  chosen b e = ap (λ t. now ++ (if t then kept_where (drop (k + 1) cells) (drop (k + 1) answers) else get_or cells k d ∷ kept_where (drop (k + 1) cells) (drop (k + 1) answers))) (sym e)
      ∙ ap (λ cs. now ++ cs) (sym here) ∙ h.same

  kept_by : (b : Bool) (new : Row) (more : ℕ) → nat_eq (get_or answers k 0) 0 ≡ b → new ≡ (if b then now else now ++ get_or cells k d ∷ []) → capacity ≤ more
      → AreKept cells answers start (k + 1) (next + 1) new more
  kept_by true new more e is r = record {
    same = ap (λ cs. cs ++ kept_where (drop (k + 1) cells) (drop (k + 1) answers)) is ∙ chosen true e;
    words = taken;
    fits = λ u. let f = h.fits l in let p = ap length is in
        let m = kept_here cells answers start k next now capacity h l n ∙ ap (λ t. if t then kept_count (drop (k + 1) answers) else suc (kept_count (drop (k + 1) answers))) e in omega (arith, f, m, p, r);
    at = let a = h.at in omega arith;
  }
  kept_by false new more e is r = record {
    same = ap (λ cs. cs ++ kept_where (drop (k + 1) cells) (drop (k + 1) answers)) is
        ∙ append_assoc now (get_or cells k d ∷ []) (kept_where (drop (k + 1) cells) (drop (k + 1) answers)) ∙ chosen false e;
    words = taken;
    fits = λ u. let f = h.fits l in let q = ap length is in let p = length-append now (get_or cells k d ∷ []) in
        let m = kept_here cells answers start k next now capacity h l n ∙ ap (λ t. if t then kept_count (drop (k + 1) answers) else suc (kept_count (drop (k + 1) answers))) e in omega (arith, f, m, q, p, r);
    at = let a = h.at in omega arith;
  }

  pub kept_step : (new : Row) (more : ℕ) → new ≡ (if nat_eq (get_or answers next 0) 0 then now else now ++ get_or cells k d ∷ []) → capacity ≤ more
      → AreKept cells answers start (k + 1) (next + 1) new more
  kept_step new more is r = kept_by (nat_eq (get_or answers k 0) 0) new more refl
      (is ∙ ap (λ m. if nat_eq (get_or answers m 0) 0 then now else now ++ get_or cells k d ∷ []) h.at) r

pub are_kept : (cells : Row) (answers : List ℕ) (start : Row) (k next : ℕ) (now : Row) (capacity : ℕ) → AreKept cells answers start k next now capacity → length cells ≤ k
    → (now ≡ start ++ kept_where cells answers) × AllByRecursion (λ (c : Cell). c.1 < 2 ^ 64) cells
are_kept cells answers start k next now capacity h l = (
  sym (append-nil now) ∙ ap (λ cs. now ++ kept_where cs (drop k answers)) (sym (drop_all k cells l)) ∙ h.same,
  subst (λ cs. AllByRecursion (λ (c : Cell). c.1 < 2 ^ 64) cs) (take_all k cells l) h.words,
)
