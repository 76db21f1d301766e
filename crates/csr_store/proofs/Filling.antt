-- A matrix by rows, filled in ascending order.
use Rattle.std.proofs.Common.{zero, suc, ◌≡◌, ◌≤◌, ◌+◌, ◌-◌, ℕ, true, List, [], ◌∷◌, ◌++◌, length, take, drop, refl, sym, ap, ◌∙◌, subst, arith, append_assoc, append-nil, length-append}
use Rattle.std.proofs.lemmas.List.{map-append, take-append-le, drop-append-le, take_all, drop_all, length-drop, length-take, length-map}
use Rattle.std.specs.Prelude.{Result, Ok, Err, OnErr}
use Rattle.std.specs.declared.cmp.Ordering.{Ordering}
use Rattle.std.specs.declared.cmp.Ordering.TheVariants.{Less, Equal, Greater}
use Rattle.std.specs.Ordering.{is_lt}
use Rattle.std.specs.FinMap.{len, from_entries, is_sorted, len-entries}
use Rattle.std.specs.FinMap.Entries.{below_all}
use Rattle.csr_store.specs.Grid.{Position, Cell, Entry, pos_cmp, at_row}
use Rattle.csr_store.proofs.Order.{pos_total, both_true}
use Rattle.csr_store.proofs.Laws.{entries-from_entries}
use Rattle.csr_store.specs.ByRows.{entries_from, by_rows}
use Rattle.csr_store.specs.inner.ByRows.{Within, repeated, Closes}

-- ---- lists

at_row-append : (i : ℕ) (xs ys : List Cell) → at_row i (xs ++ ys) ≡ at_row i xs ++ at_row i ys
at_row-append i xs ys = map-append (λ (c : Cell). ((i, c.0), c.1)) xs ys

entries-push : (i from : ℕ) (ends : List ℕ) (cs : List Cell) (c : Cell) → Within from ends (length cs) → entries_from i from ends (cs ++ c ∷ []) ≡ entries_from i from ends cs ++ ((i + length ends, c.0), c.1) ∷ []
entries-push i from [] cs c w = at_row-append i cs (c ∷ []) ∙ ap (λ k. at_row i cs ++ ((k, c.0), c.1) ∷ []) (let e : i ≡ i + 0 = omega arith in e)
entries-push i from (e ∷ es) cs c w =
    let here : e - from ≤ length cs = let l = w.0 in let h = w.1.0 in omega arith in
    let h = entries-push (i + 1) e es (drop (e - from) cs) c (subst (λ (n : ℕ). Within e es n) (sym (length-drop (e - from) cs)) w.1.1) in
    ap (λ xs. at_row i xs ++ entries_from (i + 1) e es (drop (e - from) (cs ++ c ∷ []))) (take-append-le (e - from) cs (c ∷ []) here)
    ∙ (ap (λ xs. at_row i (take (e - from) cs) ++ entries_from (i + 1) e es xs) (drop-append-le (e - from) cs (c ∷ []) here)
    ∙ (ap (λ xs. at_row i (take (e - from) cs) ++ xs) (h ∙ ap (λ k. entries_from (i + 1) e es (drop (e - from) cs) ++ ((k, c.0), c.1) ∷ []) (let q : i + 1 + length es ≡ i + suc (length es) = omega arith in q))
    ∙ sym (append_assoc (at_row i (take (e - from) cs)) (entries_from (i + 1) e es (drop (e - from) cs)) _)))

entries-close : (i from : ℕ) (ends : List ℕ) (cs : List Cell) → Within from ends (length cs) → entries_from i from (ends ++ (from + length cs) ∷ []) cs ≡ entries_from i from ends cs
entries-close i from [] cs w =
    let t : take (from + length cs - from) cs ≡ cs = take_all _ cs (omega arith) in
    let d : drop (from + length cs - from) cs ≡ [] = drop_all _ cs (omega arith) in
    rw (t, d) (append-nil (at_row i cs))
entries-close i from (e ∷ es) cs w =
    let l = w.0 in let h = w.1.0 in
    let q : from + length cs ≡ e + length (drop (e - from) cs) = simp length-drop (omega arith) in
    ap (λ xs. at_row i (take (e - from) cs) ++ xs) (ap (λ n. entries_from (i + 1) e (es ++ n ∷ []) (drop (e - from) cs)) q ∙ entries-close (i + 1) e es (drop (e - from) cs) (subst (λ (n : ℕ). Within e es n) (sym (length-drop (e - from) cs)) w.1.1))

pub within_push : (from : ℕ) (ends : List ℕ) (n : ℕ) → Within from ends n → Within from ends (n + 1)
within_push from [] n w = tt
within_push from (e ∷ es) n w =
    let l = w.0 in let h = w.1.0 in
    (l, (omega arith, subst (λ (k : ℕ). Within e es k) (let q : n - (e - from) + 1 ≡ n + 1 - (e - from) = omega arith in q) (within_push e es (n - (e - from)) w.1.1)))

within_close : (from : ℕ) (ends : List ℕ) (n : ℕ) → Within from ends n → Within from (ends ++ (from + n) ∷ []) n
within_close from [] n w = (omega arith, (omega arith, tt))
within_close from (e ∷ es) n w =
    let l = w.0 in let h = w.1.0 in
    (l, (h, subst (λ (k : ℕ). Within e (es ++ k ∷ []) (n - (e - from))) (let q : e + (n - (e - from)) ≡ from + n = omega arith in q) (within_close e es (n - (e - from)) w.1.1)))

length-entries_from : (i from : ℕ) (ends : List ℕ) (cs : List Cell) → Within from ends (length cs) → length (entries_from i from ends cs) ≡ length cs
length-entries_from i from [] cs w = length-map cs (λ (c : Cell). ((i, c.0), c.1))
length-entries_from i from (e ∷ es) cs w =
    let l = w.0 in let h = w.1.0 in
    let rest = length-entries_from (i + 1) e es (drop (e - from) cs) (subst (λ (n : ℕ). Within e es n) (sym (length-drop (e - from) cs)) w.1.1) in
    let left : length (at_row i (take (e - from) cs)) ≡ length (take (e - from) cs) = length-map (take (e - from) cs) (λ (c : Cell). ((i, c.0), c.1)) in
    let a = length-take (e - from) cs in let b = length-drop (e - from) cs in
    length-append (at_row i (take (e - from) cs)) (entries_from (i + 1) e es (drop (e - from) cs)) ∙ (omega arith)

-- rows that end where the cells end
closed : (n : ℕ) (ends : List ℕ) (cs : List Cell) → Within 0 ends (length cs) → (by_rows (ends ++ repeated n (length cs)) cs ≡ by_rows ends cs) × Within 0 (ends ++ repeated n (length cs)) (length cs)
closed zero ends cs w = (ap (λ es. by_rows es cs) (append-nil ends), subst (λ (es : List ℕ). Within 0 es (length cs)) (sym (append-nil ends)) w)
closed (suc n) ends cs w =
    let z : 0 + length cs ≡ length cs = omega arith in
    let one = subst (λ (k : ℕ). Within 0 (ends ++ k ∷ []) (length cs)) z (within_close 0 ends (length cs) w) in
    let same = ap (λ k. by_rows (ends ++ k ∷ []) cs) (sym z) ∙ entries-close 0 0 ends cs w in
    let rest = closed n (ends ++ length cs ∷ []) cs one in
    let q = append_assoc ends (length cs ∷ []) (repeated n (length cs)) in
    (ap (λ es. by_rows es cs) (sym q) ∙ (rest.0 ∙ same), subst (λ (es : List ℕ). Within 0 es (length cs)) q rest.1)

-- rows that were closed where the cells end keep their entries
pub closed_rows : (ends new : List ℕ) (cs : List Cell) → Within 0 ends (length cs) → Closes ends (length cs) new → (by_rows new cs ≡ by_rows ends cs) × Within 0 new (length cs)
closed_rows ends new cs w c =
    let t = closed c.count ends cs w in
    (ap (λ es. by_rows es cs) c.is ∙ t.0, subst (λ (es : List ℕ). Within 0 es (length cs)) (sym c.is) t.1)

-- a cell more in the open row
pub push_row : (ends : List ℕ) (cs : List Cell) (c : Cell) → Within 0 ends (length cs) → by_rows ends (cs ++ c ∷ []) ≡ by_rows ends cs ++ ((length ends, c.0), c.1) ∷ []
push_row ends cs c w = entries-push 0 0 ends cs c w ∙ ap (λ k. by_rows ends cs ++ ((k, c.0), c.1) ∷ []) (let e : 0 + length ends ≡ length ends = omega arith in e)

-- ---- order

less : (o : Ordering) → is_lt o ≡ true → o ≡ Less
less Less h = refl
less Equal h = absurd (cc)
less Greater h = absurd (cc)

below_trans : (p q r : Position) → is_lt (pos_cmp p q) ≡ true → is_lt (pos_cmp q r) ≡ true → is_lt (pos_cmp p r) ≡ true
below_trans p q r a b = ap is_lt (pos_total.trans p q r (less _ a) (less _ b))

-- ---- closing

repeated_push : (n x : ℕ) → repeated (n + 1) x ≡ repeated n x ++ x ∷ []
repeated_push zero x = refl
repeated_push (suc n) x = ap (λ k. repeated k x) (let e : suc n + 1 ≡ suc (n + 1) = omega arith in e) ∙ ap (λ xs. x ∷ xs) (repeated_push n x)

pub closes_none : (old : List ℕ) (end : ℕ) → Closes old end old
closes_none old end = record { count = 0; is = sym (append-nil old) }

pub closes_more : (old new more : List ℕ) (end : ℕ) → Closes old end new → more ≡ new ++ end ∷ [] → Closes old end more
closes_more old new more end h e =
    record {
      count = h.count + 1;
      is = e ∙ (ap (λ xs. xs ++ end ∷ []) h.is ∙ (append_assoc old (repeated h.count end) (end ∷ []) ∙ ap (λ xs. old ++ xs) (sym (repeated_push h.count end))));
    }

-- ---- one entry more

below_raise : (x q p : Position) (u v : ℕ) (es : List Entry) → (is_lt (pos_cmp x q) ≡ true → is_lt (pos_cmp x p) ≡ true) → below_all pos_cmp x (es ++ (q, u) ∷ []) ≡ true → below_all pos_cmp x (es ++ (p, v) ∷ []) ≡ true
below_raise x q p u v [] f h = rw (f (both_true _ _ h).0) refl
below_raise x q p u v (e ∷ es) f h = let t : (is_lt (pos_cmp x e.0) ≡ true) × (below_all pos_cmp x (es ++ (q, u) ∷ []) ≡ true) = both_true _ _ h in rw (t.0, below_raise x q p u v es f t.1) refl

-- the last position may rise
pub raise : (q p : Position) (u v : ℕ) (es : List Entry) → ((x : Position) → is_lt (pos_cmp x q) ≡ true → is_lt (pos_cmp x p) ≡ true) → is_sorted pos_cmp (es ++ (q, u) ∷ []) ≡ true → is_sorted pos_cmp (es ++ (p, v) ∷ []) ≡ true
raise q p u v [] f h = refl
raise q p u v (e ∷ es) f h = let t : (below_all pos_cmp e.0 (es ++ (q, u) ∷ []) ≡ true) × (is_sorted pos_cmp (es ++ (q, u) ∷ []) ≡ true) = both_true _ _ h in rw (below_raise e.0 q p u v es (f e.0) t.0, raise q p u v es f t.1) refl

below_end : (x p : Position) (v : ℕ) (es : List Entry) → below_all pos_cmp x (es ++ (p, v) ∷ []) ≡ true → is_lt (pos_cmp x p) ≡ true
below_end x p v [] h = (both_true _ _ h).0
below_end x p v (e ∷ es) h = below_end x p v es (both_true _ _ h).1

below_push : (x p : Position) (v : ℕ) (es : List Entry) → below_all pos_cmp x es ≡ true → is_lt (pos_cmp x p) ≡ true → below_all pos_cmp x (es ++ (p, v) ∷ []) ≡ true
below_push x p v [] h l = rw l refl
below_push x p v (e ∷ es) h l = let t : (is_lt (pos_cmp x e.0) ≡ true) × (below_all pos_cmp x es ≡ true) = both_true _ _ h in rw (t.0, below_push x p v es t.1 l) refl

pub sorted_push : (p q : Position) (u v : ℕ) (es : List Entry) → is_sorted pos_cmp (es ++ (p, u) ∷ []) ≡ true → is_lt (pos_cmp p q) ≡ true → is_sorted pos_cmp ((es ++ (p, u) ∷ []) ++ (q, v) ∷ []) ≡ true
sorted_push p q u v [] h l = rw l refl
sorted_push p q u v (e ∷ es) h l =
    let t : (below_all pos_cmp e.0 (es ++ (p, u) ∷ []) ≡ true) × (is_sorted pos_cmp (es ++ (p, u) ∷ []) ≡ true) = both_true _ _ h in
    rw (below_push e.0 q v (es ++ (p, u) ∷ []) t.0 (below_trans e.0 p q (below_end e.0 p u es t.0) l), sorted_push p q u v es t.1 l) refl

pub fewer_sorted : (p : Position) (v : ℕ) (es : List Entry) → is_sorted pos_cmp (es ++ (p, v) ∷ []) ≡ true → is_sorted pos_cmp es ≡ true
fewer_sorted p v [] h = refl
fewer_sorted p v (e ∷ es) h = let t : (below_all pos_cmp e.0 (es ++ (p, v) ∷ []) ≡ true) × (is_sorted pos_cmp (es ++ (p, v) ∷ []) ≡ true) = both_true _ _ h in rw (below_fewer e.0 p v es t.0, fewer_sorted p v es t.1) refl
  where
    below_fewer : (x q : Position) (u : ℕ) (fs : List Entry) → below_all pos_cmp x (fs ++ (q, u) ∷ []) ≡ true → below_all pos_cmp x fs ≡ true
    below_fewer x q u [] g = refl
    below_fewer x q u (f ∷ fs) g = let s : (is_lt (pos_cmp x f.0) ≡ true) × (below_all pos_cmp x (fs ++ (q, u) ∷ []) ≡ true) = both_true _ _ g in rw (s.0, below_fewer x q u fs s.1) refl

-- ---- what is read

pub sorted_entries : (ends : List ℕ) (cells : List Cell) → Within 0 ends (length cells) → is_sorted pos_cmp (by_rows ends cells) ≡ true → len (from_entries {R = pos_cmp} (by_rows ends cells)) ≡ length cells
sorted_entries ends cells w h = len-entries _ ∙ ap length (entries-from_entries (by_rows ends cells) h) ∙ length-entries_from 0 0 ends cells w

-- a fact that holds anyway
pub on_err : {X E : Type 0} {P : Type 0} (r : Result X E) → P → OnErr r P
on_err (Ok x) p = tt
on_err (Err e) p = p
