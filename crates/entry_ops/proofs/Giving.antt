-- The next words of open rows are taken from their cells, from the last row on, and those that have none get their results.
use Rattle.std.proofs.Common.{◌≡◌, ◌⊎◌, ◌≤◌, ◌<◌, ◌+◌, ◌-◌, ℕ, zero, suc, List, [], ◌∷◌, ◌++◌, Option, Some, length, take, drop, set, get_or, inl, inr, refl, sym, ap, ◌∙◌, subst, arith, append_assoc, append-nil}
use Rattle.std.specs.List.{AllByRecursion}
use Rattle.std.proofs.lemmas.Bool.{cases_lt}
use Rattle.std.proofs.lemmas.List.{take_more, take_all, drop_more, take-set, drop-set, get_or-drop, length-drop, length-set}
use Rattle.bpf_verify.specs.Accepted.{Accepted}
use Rattle.csr_store.specs.Grid.{Cell}
use Rattle.bpf_run.specs.Fold.{fold_from, fold_calls_from}
use Rattle.bpf_run.specs.Calls.{steps_of}
use Rattle.entry_ops.specs.inner.Folding.{words, Open, in_columns, in_two_columns, ArePlaced, IsAmong, indices, LeadsTo, Gives}
use Rattle.entry_ops.specs.declared.open_rows.Lane.{Lane}
use Rattle.entry_ops.proofs.OpenRows.{all_gone, among_gone, due_append, columns_push, two_columns_push, same_take, leads_found, gives_then}

-- ---- a row at the end is moved before others

all_turned : (P : Open → Type 0) (xs : List Open) (z : Open) → AllByRecursion P (xs ++ z ∷ []) → AllByRecursion P (z ∷ xs)
all_turned P xs z h = let g = all_gone P xs z [] h in (g.0, subst (AllByRecursion P) (append-nil xs) g.1)

all_turned-behind : (P : Open → Type 0) (ws xs : List Open) (z : Open) → AllByRecursion P (ws ++ (xs ++ z ∷ []))
    → AllByRecursion P (ws ++ z ∷ xs)
all_turned-behind P [] xs z h = all_turned P xs z h
all_turned-behind P (w ∷ ws) xs z h = (h.0, all_turned-behind P ws xs z h.1)

among_turned : (k : ℕ) (ws xs : List Open) (z : Open) → IsAmong k (indices (ws ++ (xs ++ z ∷ []))) → IsAmong k (indices (ws ++ z ∷ xs))
among_turned k [] xs z h = elim (among_gone k xs z [] h) [
  | inl e ↦ inl e
  | inr r ↦ inr (subst (λ (ls : List Open). IsAmong k (indices ls)) (append-nil xs) r)
]
among_turned k (w ∷ ws) xs z (inl e) = inl e
among_turned k (w ∷ ws) xs z (inr h) = inr (among_turned k ws xs z h)

leads_turned : (f : Accepted) (target : ℕ → Option ℕ) (ws xs : List Open) (z : Open) (results : List (Option ℕ))
    → LeadsTo f target (ws ++ (xs ++ z ∷ [])) results → LeadsTo f target (ws ++ z ∷ xs) results
leads_turned f target ws xs z results h = record {
  opened = all_turned-behind (λ (l : Open). Some (fold_from f l.so_far l.terms) ≡ target l.number) ws xs z h.opened;
  known = λ k b. elim (h.known k b) [ inl e ↦ inl e | inr a ↦ inr (among_turned k ws xs z a) ];
}

gives_turned : (f : Accepted) (ws xs : List Open) (z : Open) (results : List (Option ℕ))
    → Gives f 0 (ws ++ (xs ++ z ∷ [])) results (ws ++ z ∷ xs) results
gives_turned f ws xs z results =
    let a = due_append f ws (xs ++ z ∷ []) in
    let b = due_append f xs (z ∷ []) in
    let c = due_append f ws (z ∷ xs) in
    record { rows = refl; leads = λ target h. leads_turned f target ws xs z results h; costs = omega (arith, a, b, c) }

-- ---- a row with no word left has its result

gives_result : (f : Accepted) (xs : List Open) (x : Open) (ys : List Open) (results : List (Option ℕ)) → x.terms ≡ []
    → x.number < length results → Gives f 0 (xs ++ x ∷ ys) results (xs ++ ys) (set results x.number (Some x.so_far))
gives_result f xs x ys results e within =
    let a = due_append f xs (x ∷ ys) in
    let b = due_append f xs ys in
    let z : steps_of (fold_calls_from f x.so_far x.terms) ≡ 0 = ap (λ ts. steps_of (fold_calls_from f x.so_far ts)) e in
    record {
      rows = length-set results x.number (Some x.so_far);
      leads = λ target h. leads_found f target xs x ys results h within x.so_far (ap (λ ts. Some (fold_from f x.so_far ts)) (sym e));
      costs = omega (arith, a, b, z);
    }

-- ---- parts of columns

same_drop : {X Y : Type 0} (n : ℕ) (xs : List X) (ys : List Y) → length ys ≡ length xs → length (drop n ys) ≡ length (drop n xs)
same_drop zero xs ys e = e
same_drop (suc n) [] [] e = refl
same_drop (suc n) [] (y ∷ ys) e = absurd (omega (arith, e))
same_drop (suc n) (x ∷ xs) [] e = absurd (omega (arith, e))
same_drop (suc n) (x ∷ xs) (y ∷ ys) e = same_drop n xs ys (omega (arith, e))

-- from one place up to another
abbrev part : {X : Type 0} → ℕ → ℕ → List X → List X
part i j xs = take (j - i) (drop i xs)

same_part : {X Y : Type 0} (i j : ℕ) (xs : List X) (ys : List Y) → length ys ≡ length xs → length (part i j ys) ≡ length (part i j xs)
same_part i j xs ys e = same_take (j - i) (drop i xs) (drop i ys) (same_drop i xs ys e)

part_none : {X : Type 0} (i j : ℕ) (xs : List X) → j ≤ i → part i j xs ≡ []
part_none i j xs l = let z : j - i ≡ 0 = omega (arith, l) in ap (λ k. take k (drop i xs)) z

part_more : {X : Type 0} (i j : ℕ) (xs : List X) (d : X) → i < j → i < length xs → part i j xs ≡ get_or xs i d ∷ part (i + 1) j xs
part_more i j xs d l s =
    let one : j - i ≡ suc (j - (i + 1)) = omega (arith, l) in
    ap (λ k. take k (drop i xs)) one ∙ ap (λ ys. take (suc (j - (i + 1))) ys) (drop_more xs i d s)

part_set : {X : Type 0} (i j : ℕ) (xs : List X) (y : X) → i < j → i < length xs → part i j (set xs i y) ≡ y ∷ part (i + 1) j xs
part_set i j xs y l s =
    let one : j - i ≡ suc (j - (i + 1)) = omega (arith, l) in
    ap (λ k. take k (drop i (set xs i y))) one ∙ ap (λ ys. take (suc (j - (i + 1))) ys) (drop-set xs i y s)

part_last : {X : Type 0} (i j : ℕ) (xs : List X) (d : X) → i < j → j ≤ length xs
    → part i j xs ≡ part i (j - 1) xs ++ get_or xs (j - 1) d ∷ []
part_last i j xs d l b =
    let m = (j - 1) - i in
    let e : j - i ≡ m + 1 = omega (arith, l) in
    let n = length-drop i xs in
    let at_end : i + m ≡ j - 1 = omega (arith, l) in
    ap (λ k. take k (drop i xs)) e ∙ take_more (drop i xs) m d (omega (arith, l, b, n))
    ∙ ap (λ x. take m (drop i xs) ++ x ∷ []) (get_or-drop i xs m d ∙ ap (λ k. get_or xs k d) at_end)

-- ---- rows that wait for their words, and rows that have theirs

abbrev halfway : ℕ → ℕ → List Lane → List ℕ → List ℕ → List Open
halfway i left lanes so_far next = in_two_columns (take i lanes) (take i so_far)
    ++ in_columns (part i left lanes) (part i left so_far) (part i left next)

pub record IsGiving (start : List Open) (begun : List (Option ℕ)) (i left : ℕ) (lanes : List Lane) (so_far next : List ℕ)
    (results : List (Option ℕ)) : Type 0 where
  pub within : i ≤ left
  pub fits : left ≤ length lanes
  pub folds : length so_far ≡ length lanes
  pub nexts : length next ≡ length lanes
  pub rows : length results ≡ length begun
  pub placed : ArePlaced (length begun) (halfway i left lanes so_far next)
  pub gives : (f : Accepted) → Gives f 0 start begun (halfway i left lanes so_far next) results

pub giving-start : (begun : List (Option ℕ)) (lanes : List Lane) (so_far next : List ℕ) → length so_far ≡ length lanes
    → length next ≡ length lanes → ArePlaced (length begun) (in_two_columns lanes so_far)
    → IsGiving (in_two_columns lanes so_far) begun (length lanes) (length lanes) lanes so_far next begun
giving-start begun lanes so_far next p q h =
    let whole : in_two_columns lanes so_far ≡ halfway (length lanes) (length lanes) lanes so_far next =
    sym (append-nil (in_two_columns lanes so_far))
    ∙ ap (λ os. in_two_columns lanes so_far ++ os)
    (ap (λ (ls : List Lane). in_columns ls (part (length lanes) (length lanes) so_far) (part (length lanes) (length lanes) next))
    (sym (part_none (length lanes) (length lanes) lanes (omega arith))))
    ∙ ap (λ os. os ++ in_columns (part (length lanes) (length lanes) lanes) (part (length lanes) (length lanes) so_far) (part (length lanes)
    (length lanes) next))
    (ap (λ (ls : List Lane). in_two_columns ls so_far) (sym (take_all (length lanes) lanes (omega arith)))
    ∙ ap (λ vs. in_two_columns (take (length lanes) lanes) vs) (sym (take_all (length lanes) so_far (omega (arith, p))))) in
    record {
      within = omega arith;
      fits = omega arith;
      folds = p;
      nexts = q;
      rows = refl;
      placed = subst (ArePlaced (length begun)) whole h;
      gives = λ f. subst (λ os. Gives f 0 (in_two_columns lanes so_far) begun os begun) whole
          (record { rows = refl; leads = λ target l. l; costs = omega arith });
    }

module _ (start : List Open) (begun : List (Option ℕ)) (i left : ℕ) (lanes : List Lane) (so_far next : List ℕ)
    (results : List (Option ℕ)) (h : IsGiving start begun (i + 1) left lanes so_far next results) (d : Lane) where
  short : i < length lanes
  short = let a = h.within in let b = h.fits in omega (arith, a, b)

  abbrev before : List Open
  before = in_two_columns (take i lanes) (take i so_far)

  abbrev behind : List Open
  behind = in_columns (part (i + 1) left lanes) (part (i + 1) left so_far) (part (i + 1) left next)

  -- the row whose turn it is
  abbrev here : Open
  here = record { number = (get_or lanes i d).number; so_far = get_or so_far i 0; terms = words (get_or lanes i d).rest.now }

  parted : halfway (i + 1) left lanes so_far next ≡ before ++ here ∷ behind
  parted =
      let s = short in
      let p = h.folds in
      ap (λ os. os ++ behind)
      (ap (λ (ls : List Lane). in_two_columns ls (take (i + 1) so_far)) (take_more lanes i d s)
      ∙ ap (λ vs. in_two_columns (take i lanes ++ get_or lanes i d ∷ []) vs) (take_more so_far i 0 (omega (arith, s, p)))
      ∙ two_columns_push (take i lanes) (take i so_far) (get_or lanes i d) (get_or so_far i 0) (same_take i lanes so_far p))
      ∙ append_assoc before (here ∷ []) behind

  placed_now : ArePlaced (length begun) (before ++ here ∷ behind)
  placed_now = subst (ArePlaced (length begun)) parted h.placed

  gives_now : (f : Accepted) → Gives f 0 start begun (before ++ here ∷ behind) results
  gives_now f = subst (λ os. Gives f 0 start begun os results) parted (h.gives f)

  pub giving-number : (get_or lanes i d).number < length results
  giving-number =
      let r = h.rows in
      let p = (all_gone (λ (o : Open). o.number < length begun) before here behind placed_now).0 in
      omega (arith, r, p)

  -- it has a next word
  pub giving-word : (c : Cell) (y : Lane) → y.number ≡ (get_or lanes i d).number → (get_or lanes i d).rest.now ≡ c ∷ y.rest.now
      → IsGiving start begun i left (set lanes i y) so_far (set next i c.1) results
  giving-word c y p e =
      let s = short in
      let w = h.within in
      let v = h.folds in
      let n = h.nexts in
      let l : i < left = omega (arith, w) in
      let same : here ≡ record { number = y.number; so_far = get_or so_far i 0; terms = c.1 ∷ words y.rest.now } =
      ap (λ ts. record { number = (get_or lanes i d).number; so_far = get_or so_far i 0; terms = ts }) (ap words e)
      ∙ ap (λ k. record { number = k; so_far = get_or so_far i 0; terms = c.1 ∷ words y.rest.now }) (sym p) in
      let all : halfway i left (set lanes i y) so_far (set next i c.1) ≡ before ++ here ∷ behind =
      ap (λ (ls : List Lane). in_two_columns ls (take i so_far) ++ in_columns (part i left (set lanes i y)) (part i left so_far)
      (part i left (set next i c.1))) (take-set lanes i y)
      ∙ ap (λ os. before ++ os)
      (ap (λ (ls : List Lane). in_columns ls (part i left so_far) (part i left (set next i c.1))) (part_set i left lanes y l s)
      ∙ ap (λ vs. in_columns (y ∷ part (i + 1) left lanes) vs (part i left (set next i c.1))) (part_more i left so_far 0 l (omega (arith, s, v)))
      ∙ ap (λ ws. in_columns (y ∷ part (i + 1) left lanes) (get_or so_far i 0 ∷ part (i + 1) left so_far) ws)
      (part_set i left next c.1 l (omega (arith, s, n)))
      ∙ ap (λ o. o ∷ behind) (sym same)) in
      let a = h.fits in
      let b = length-set lanes i y in
      let k = length-set next i c.1 in
      record {
        within = omega (arith, w);
        fits = omega (arith, a, b);
        folds = omega (arith, v, b);
        nexts = omega (arith, n, b, k);
        rows = h.rows;
        placed = subst (ArePlaced (length begun)) (sym all) placed_now;
        gives = λ f. subst (λ os. Gives f 0 start begun os results) (sym all) (gives_now f);
      }

  -- it has none, and the last row stands in its place
  module _ (none : (get_or lanes i d).rest.now ≡ []) where
    abbrev then : List Open
    then = halfway i (left - 1) (set lanes i (get_or lanes (left - 1) d)) (set so_far i (get_or so_far (left - 1) 0))
        (set next i (get_or next (left - 1) 0))

    given : (f : Accepted) → Gives f 0 start begun (before ++ behind) (set results (get_or lanes i d).number (Some (get_or so_far i 0)))
    given f = gives_then f 0 0 start (before ++ here ∷ behind) (before ++ behind) begun results _ (gives_now f)
        (gives_result f before here behind results (ap words none) giving-number)

    placed_left : ArePlaced (length begun) (before ++ behind)
    placed_left = (all_gone (λ (o : Open). o.number < length begun) before here behind placed_now).1

    front : then ≡ before ++ in_columns (part i (left - 1) (set lanes i (get_or lanes (left - 1) d)))
        (part i (left - 1) (set so_far i (get_or so_far (left - 1) 0))) (part i (left - 1) (set next i (get_or next (left - 1) 0)))
    front = ap (λ (ls : List Lane). in_two_columns ls (take i (set so_far i (get_or so_far (left - 1) 0)))
        ++ in_columns (part i (left - 1) (set lanes i (get_or lanes (left - 1) d)))
        (part i (left - 1) (set so_far i (get_or so_far (left - 1) 0))) (part i (left - 1) (set next i (get_or next (left - 1) 0))))
        (take-set lanes i (get_or lanes (left - 1) d))
        ∙ ap (λ vs. in_two_columns (take i lanes) vs ++ in_columns (part i (left - 1) (set lanes i (get_or lanes (left - 1) d)))
        (part i (left - 1) (set so_far i (get_or so_far (left - 1) 0))) (part i (left - 1) (set next i (get_or next (left - 1) 0))))
        (take-set so_far i (get_or so_far (left - 1) 0))

    record IsThen (os : List Open) : Type 0 where
      placed : ArePlaced (length begun) os
      gives : (f : Accepted) → Gives f 0 start begun os (set results (get_or lanes i d).number (Some (get_or so_far i 0)))

    is_then : (i < left - 1) ⊎ (left - 1 ≤ i) → IsThen then
    is_then (inl q) =
        let s = short in
        let v = h.folds in
        let n = h.nexts in
        let b = h.fits in
        let xs = in_columns (part (i + 1) (left - 1) lanes) (part (i + 1) (left - 1) so_far) (part (i + 1) (left - 1) next) in
        let z : Open = record {
          number = (get_or lanes (left - 1) d).number;
          so_far = get_or so_far (left - 1) 0;
          terms = get_or next (left - 1) 0 ∷ words (get_or lanes (left - 1) d).rest.now;
        } in
        let old : behind ≡ xs ++ z ∷ [] =
        ap (λ (ls : List Lane). in_columns ls (part (i + 1) left so_far) (part (i + 1) left next))
        (part_last (i + 1) left lanes d (omega (arith, q)) b)
        ∙ ap (λ vs. in_columns (part (i + 1) (left - 1) lanes ++ get_or lanes (left - 1) d ∷ []) vs (part (i + 1) left next))
        (part_last (i + 1) left so_far 0 (omega (arith, q)) (omega (arith, b, v)))
        ∙ ap (λ ws. in_columns (part (i + 1) (left - 1) lanes ++ get_or lanes (left - 1) d ∷ [])
        (part (i + 1) (left - 1) so_far ++ get_or so_far (left - 1) 0 ∷ []) ws)
        (part_last (i + 1) left next 0 (omega (arith, q)) (omega (arith, b, n)))
        ∙ columns_push (part (i + 1) (left - 1) lanes) (part (i + 1) (left - 1) so_far) (part (i + 1) (left - 1) next)
        (get_or lanes (left - 1) d) (get_or so_far (left - 1) 0) (get_or next (left - 1) 0)
        (same_part (i + 1) (left - 1) lanes so_far v) (same_part (i + 1) (left - 1) lanes next n) in
        let new : then ≡ before ++ z ∷ xs =
        front ∙ ap (λ os. before ++ os)
        (ap (λ (ls : List Lane). in_columns ls (part i (left - 1) (set so_far i (get_or so_far (left - 1) 0)))
        (part i (left - 1) (set next i (get_or next (left - 1) 0)))) (part_set i (left - 1) lanes (get_or lanes (left - 1) d) q s)
        ∙ ap (λ vs. in_columns (get_or lanes (left - 1) d ∷ part (i + 1) (left - 1) lanes) vs
        (part i (left - 1) (set next i (get_or next (left - 1) 0))))
        (part_set i (left - 1) so_far (get_or so_far (left - 1) 0) q (omega (arith, s, v)))
        ∙ ap (λ ws. in_columns (get_or lanes (left - 1) d ∷ part (i + 1) (left - 1) lanes)
        (get_or so_far (left - 1) 0 ∷ part (i + 1) (left - 1) so_far) ws)
        (part_set i (left - 1) next (get_or next (left - 1) 0) q (omega (arith, s, n)))) in
        record {
          placed = subst (ArePlaced (length begun)) (sym new) (all_turned-behind (λ (o : Open). o.number < length begun) before xs z
              (subst (λ os. ArePlaced (length begun) (before ++ os)) old placed_left));
          gives = λ f. subst (λ os. Gives f 0 start begun os (set results (get_or lanes i d).number (Some (get_or so_far i 0)))) (sym new)
              (gives_then f 0 0 start (before ++ (xs ++ z ∷ [])) (before ++ z ∷ xs) begun _ _
              (subst (λ os. Gives f 0 start begun (before ++ os) (set results (get_or lanes i d).number (Some (get_or so_far i 0)))) old (given f))
              (gives_turned f before xs z _));
        }
    is_then (inr q) =
        let w = h.within in
        let old : behind ≡ [] =
        ap (λ (ls : List Lane). in_columns ls (part (i + 1) left so_far) (part (i + 1) left next)) (part_none (i + 1) left lanes (omega (arith, q))) in
        let new : then ≡ before ++ [] =
        front ∙ ap (λ (ls : List Lane). before ++ in_columns ls (part i (left - 1) (set so_far i (get_or so_far (left - 1) 0)))
        (part i (left - 1) (set next i (get_or next (left - 1) 0))))
        (part_none i (left - 1) (set lanes i (get_or lanes (left - 1) d)) q) in
        record {
          placed = subst (ArePlaced (length begun)) (sym new) (subst (λ os. ArePlaced (length begun) (before ++ os)) old placed_left);
          gives = λ f. subst (λ os. Gives f 0 start begun os (set results (get_or lanes i d).number (Some (get_or so_far i 0)))) (sym new)
              (subst (λ os. Gives f 0 start begun (before ++ os) (set results (get_or lanes i d).number (Some (get_or so_far i 0)))) old (given f));
        }

    pub giving-result : IsGiving start begun i (left - 1) (set lanes i (get_or lanes (left - 1) d)) (set so_far i (get_or so_far (left - 1) 0))
        (set next i (get_or next (left - 1) 0)) (set results (get_or lanes i d).number (Some (get_or so_far i 0)))
    giving-result =
        let w = h.within in
        let b = h.fits in
        let v = h.folds in
        let n = h.nexts in
        let x = length-set lanes i (get_or lanes (left - 1) d) in
        let y = length-set so_far i (get_or so_far (left - 1) 0) in
        let z = length-set next i (get_or next (left - 1) 0) in
        let t = is_then (cases_lt i (left - 1)) in
        record {
          within = omega (arith, w);
          fits = omega (arith, b, x);
          folds = omega (arith, v, x, y);
          nexts = omega (arith, n, x, z);
          rows = length-set results (get_or lanes i d).number (Some (get_or so_far i 0)) ∙ h.rows;
          placed = t.placed;
          gives = t.gives;
        }

module _ (start : List Open) (begun : List (Option ℕ)) (i left : ℕ) (lanes : List Lane) (so_far next : List ℕ)
    (results : List (Option ℕ)) (h : IsGiving start begun i left lanes so_far next results) (z : i ≡ 0) where
  done : halfway i left lanes so_far next ≡ in_columns (take left lanes) (take left so_far) (take left next)
  done =
      let n : left - 0 ≡ left = omega arith in
      ap (λ k. halfway k left lanes so_far next) z
      ∙ ap (λ k. in_columns (take k lanes) (take k so_far) (take k next)) n

  pub giving-placed : ArePlaced (length results) (in_columns (take left lanes) (take left so_far) (take left next))
  giving-placed = subst (λ k. ArePlaced k (in_columns (take left lanes) (take left so_far) (take left next))) (sym h.rows)
      (subst (ArePlaced (length begun)) done h.placed)

  pub giving-end : (f : Accepted) → Gives f 0 start begun (in_columns (take left lanes) (take left so_far) (take left next)) results
  giving-end f = subst (λ os. Gives f 0 start begun os results) done (h.gives f)
