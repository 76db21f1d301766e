-- A list of entries with one more, for every crate that gathers entries.
use Rattle.std.proofs.Common.{◌≡◌, ℕ, true, false, cond, List, [], ◌∷◌, ◌++◌, None, Some, refl, sym, ap, ◌∙◌, subst, append_assoc, append-nil}
use Rattle.std.specs.List.{AllByRecursion, IsDistinct}
use Rattle.std.specs.Map.{keys_of}
use Rattle.std.specs.Ordering.{eq_by_cmp, is_eq}
use Rattle.std.specs.Cmp.{eq_by_cmp_equiv}
use Rattle.std.specs.FinMap.{from_entries, get, insert, get-from_entries, get-insert}
use Rattle.std.specs.FinMap.Entries.{find}
use Rattle.csr_store.specs.Grid.{Position, Entry, pos_cmp}
use Rattle.csr_store.specs.Listed.{NoneTwice}
use Rattle.csr_store.proofs.Order.{pos_total}
use Rattle.csr_store.proofs.Laws.{same_values}

flips : (p q : Position) → eq_by_cmp pos_cmp p q ≡ eq_by_cmp pos_cmp q p
flips p q = (eq_by_cmp_equiv pos_total).symm p q

other_keys : (q p : Position) (v : ℕ) (es : List Entry) → AllByRecursion (λ r. eq_by_cmp pos_cmp q r ≡ false) (keys_of (es ++ (p, v) ∷ [])) → AllByRecursion (λ r. eq_by_cmp pos_cmp q r ≡ false) (keys_of es) × (eq_by_cmp pos_cmp q p ≡ false)
other_keys q p v [] h = (tt, h.0)
other_keys q p v (e ∷ es) h = let t = other_keys q p v es h.1 in ((h.0, t.0), t.1)

-- the last position is none of the others
once_before : (p : Position) (v : ℕ) (es : List Entry) → NoneTwice (es ++ (p, v) ∷ []) → NoneTwice es × (find pos_cmp p es ≡ None)
unfolding IsDistinct
once_before p v [] h = (tt, refl)
once_before p v (e ∷ es) h =
    let t = other_keys e.0 p v es h.0 in
    let r = once_before p v es h.1 in
    ((t.0, r.0), ap (λ b. cond b (Some e.1) (find pos_cmp p es)) (flips p e.0 ∙ t.1) ∙ r.1)

pub find_last : (q p : Position) (v : ℕ) (es : List Entry) → find pos_cmp p es ≡ None → find pos_cmp q (es ++ (p, v) ∷ []) ≡ cond (is_eq (pos_cmp q p)) (Some v) (find pos_cmp q es)
find_last q p v es n = elim (is_eq (pos_cmp q p)) as (λ b. is_eq (pos_cmp q p) ≡ b → find pos_cmp q (es ++ (p, v) ∷ []) ≡ cond b (Some v) (find pos_cmp q es)) [
  | true ↦ λ e. here es n e
  | false ↦ λ e. there es e
] refl
  where
    here : (fs : List Entry) → find pos_cmp p fs ≡ None → is_eq (pos_cmp q p) ≡ true → find pos_cmp q (fs ++ (p, v) ∷ []) ≡ Some v
    here [] m e = rw e refl
    here (f ∷ fs) m e =
        let same : is_eq (pos_cmp q f.0) ≡ is_eq (pos_cmp p f.0) = (eq_by_cmp_equiv pos_total).congr q p f.0 e in
        elim (is_eq (pos_cmp p f.0)) as (λ b. is_eq (pos_cmp q f.0) ≡ b → cond b (Some f.1) (find pos_cmp p fs) ≡ None → find pos_cmp q ((f ∷ fs) ++ (p, v) ∷ []) ≡ Some v) [
          | true ↦ λ g k. absurd (cc)
          | false ↦ λ g k. rw g (here fs k e)
        ] same m

    there : (fs : List Entry) → is_eq (pos_cmp q p) ≡ false → find pos_cmp q (fs ++ (p, v) ∷ []) ≡ find pos_cmp q fs
    there [] e = rw e refl
    there (f ∷ fs) e = ap (cond (is_eq (pos_cmp q f.0)) (Some f.1)) (there fs e)

insert_last : (p : Position) (v : ℕ) (es : List Entry) → find pos_cmp p es ≡ None → from_entries {R = pos_cmp} (es ++ (p, v) ∷ []) ≡ insert (from_entries es) p v
insert_last p v es n = same_values _ _ (λ q.
    get-from_entries pos_total (es ++ (p, v) ∷ []) q ∙ find_last q p v es n
    ∙ sym (get-insert pos_total (from_entries es) p v q ∙ ap (cond (is_eq (pos_cmp q p)) (Some v)) (get-from_entries pos_total es q)))

module _ (es : List Entry) (p : Position) (v : ℕ) (once : NoneTwice (es ++ (p, v) ∷ [])) where
  before : NoneTwice es × (find pos_cmp p es ≡ None)
  before = once_before p v es once

  -- the others have none twice either
  pub once_others : NoneTwice es
  once_others = before.0

  -- none of them has this position
  pub absent_others : get (from_entries {R = pos_cmp} es) p ≡ None
  absent_others = get-from_entries pos_total es p ∙ before.1

  -- and it is put into their map
  pub map_with_entry : from_entries {R = pos_cmp} (es ++ (p, v) ∷ []) ≡ insert (from_entries es) p v
  map_with_entry = insert_last p v es before.1

-- entries that stand before others have none twice either
pub once_front : (xs ys : List Entry) → NoneTwice (xs ++ ys) → NoneTwice xs
once_front xs [] h = subst (λ (es : List Entry). NoneTwice es) (append-nil xs) h
once_front xs (y ∷ ys) h = once_others xs y.0 y.1 (once_front (xs ++ y ∷ []) ys (subst (λ (es : List Entry). NoneTwice es) (sym (append_assoc xs (y ∷ []) ys)) h))

apart_push : (q p : Position) (v : ℕ) (es : List Entry) → AllByRecursion (λ r. eq_by_cmp pos_cmp q r ≡ false) (keys_of es) → eq_by_cmp pos_cmp q p ≡ false → AllByRecursion (λ r. eq_by_cmp pos_cmp q r ≡ false) (keys_of (es ++ (p, v) ∷ []))
apart_push q p v [] h e = (e, tt)
apart_push q p v (x ∷ es) h e = (h.0, apart_push q p v es h.1 e)

once_push : (p : Position) (v : ℕ) (es : List Entry) → NoneTwice es → find pos_cmp p es ≡ None → NoneTwice (es ++ (p, v) ∷ [])
unfolding IsDistinct
once_push p v [] h n = (tt, tt)
once_push p v (e ∷ es) h n =
    elim (is_eq (pos_cmp p e.0)) as (λ b. eq_by_cmp pos_cmp p e.0 ≡ b → cond b (Some e.1) (find pos_cmp p es) ≡ None → NoneTwice ((e ∷ es) ++ (p, v) ∷ [])) [
      | true ↦ λ t k. absurd (cc)
      | false ↦ λ t k. (apart_push e.0 p v es h.0 (flips e.0 p ∙ t), once_push p v es h.1 k)
    ] refl n

-- nor have they with an entry at a position that none of them has
pub once_more : (es : List Entry) (p : Position) (v : ℕ) → NoneTwice es → get (from_entries {R = pos_cmp} es) p ≡ None → NoneTwice (es ++ (p, v) ∷ [])
once_more es p v h n = once_push p v es h (sym (get-from_entries pos_total es p) ∙ n)
