-- Two rows read side by side: the cells of one that the other shows.
use Rattle.std.proofs.Common.{◌≡◌, ◌≤◌, ◌<◌, ◌+◌, ◌^◌, ℕ, suc, Bool, true, false, if◌then◌else◌, nat_eq, is_some, [], ◌∷◌, ◌++◌, length, drop, get_or, None, Some, refl, sym, ap, ◌∙◌, subst, arith, append_assoc, append-nil, length-append, eq-eqb, inl, inr}
use mir.Val.{bool_byte}
use Rattle.std.specs.List.{AllByRecursion}
use Rattle.std.proofs.Math.Dec.{leb}
use Rattle.std.proofs.lemmas.Bool.{ne_eqb, le-leb}
use Rattle.std.proofs.lemmas.Bool.Decides.{leb_tells}
use Rattle.std.proofs.lemmas.List.{drop_more, drop_all}
use Rattle.csr_store.specs.Grid.{Cell}
use Rattle.csr_store.specs.Run.{Row}
use Rattle.csr_store.specs.Ascending.{Ascends, at, shows}
use Rattle.csr_store.specs.Shown.{cells_shown}
use Rattle.csr_store.proofs.Runs.{all_push}
use Rattle.csr_store.proofs.Along.{at-below, at-first, at-after, ascends-weaken}

-- a mask's row that is over shows none of the cells behind it
none_shown : (mask : Row) (low n : ℕ) (cells : Row) → Ascends low n cells → ((k : ℕ) → low ≤ k → at mask k ≡ None) → cells_shown mask cells ≡ []
none_shown mask low n [] a h = refl
none_shown mask low n (c ∷ cells) a h =
    let l = a.0 in
    ap (λ o. if is_some o then c ∷ cells_shown mask cells else cells_shown mask cells) (h c.0 l)
    ∙ none_shown mask (suc c.0) n cells a.2 (λ k g. h k (omega (arith, g, l)))

-- the cells that are shown ascend
pub ascends_shown : (mask : Row) (low n : ℕ) (cells : Row) → Ascends low n cells → Ascends low n (cells_shown mask cells)
ascends_shown mask low n [] h = tt
ascends_shown mask low n (c ∷ cells) h = by_test (shows (Some mask) c.0) (ascends_shown mask (suc c.0) n cells h.2)
  where
    by_test : (b : Bool) → Ascends (suc c.0) n (cells_shown mask cells) → Ascends low n (if b then c ∷ cells_shown mask cells else cells_shown mask cells)
    by_test true rest = (h.0, h.1, rest)
    by_test false rest = let a = h.0 in ascends-weaken low (suc c.0) n (cells_shown mask cells) (omega (arith, a)) rest

module _ (cells mask old : Row) where
  -- cell i and cell j are next
  pub record IsShowing (n i j : ℕ) (now : Row) : Type 0 where
    pub low : ℕ
    pub left : Ascends low n (drop i cells)
    pub right : Ascends 0 n (drop j mask)
    pub same : (k : ℕ) → low ≤ k → at (drop j mask) k ≡ at mask k
    pub more : Row
    pub now_is : now ≡ old ++ more
    pub words : AllByRecursion (λ (c : Cell). c.1 < 2 ^ 64) more
    pub listed : more ++ cells_shown mask (drop i cells) ≡ cells_shown mask cells

  pub showing-start : (n : ℕ) → Ascends 0 n cells → Ascends 0 n mask → IsShowing n 0 0 old
  showing-start n a b = record {
    low = 0;
    left = a;
    right = b;
    same = λ k l. refl;
    more = [];
    now_is = sym (append-nil old);
    words = tt;
    listed = refl;
  }

  module _ (n i j : ℕ) (now : Row) (h : IsShowing n i j now) where
    -- one of the rows is over
    pub showing-over : length cells ≤ i → h.more ≡ cells_shown mask cells
    showing-over b = sym (append-nil h.more) ∙ (ap (λ (cs : Row). h.more ++ cells_shown mask cs) (sym (drop_all i cells b)) ∙ h.listed)

    pub showing-mask_over : length mask ≤ j → h.more ≡ cells_shown mask cells
    showing-mask_over b =
        let none = none_shown mask h.low n (drop i cells) h.left
        (λ k l. sym (h.same k l) ∙ ap (λ (cs : Row). at cs k) (drop_all j mask b)) in
        sym (append-nil h.more) ∙ (ap (λ (cs : Row). h.more ++ cs) (sym none) ∙ h.listed)

    pub showing-end : h.more ≡ cells_shown mask cells
        → (now ≡ old ++ cells_shown mask cells) × AllByRecursion (λ (c : Cell). c.1 < 2 ^ 64) (cells_shown mask cells)
    showing-end e = (
      h.now_is ∙ ap (λ (cs : Row). old ++ cs) e,
      subst (λ (cs : Row). AllByRecursion (λ (c : Cell). c.1 < 2 ^ 64) cs) e h.words,
    )

    module _ (l : i < length cells) (u : j < length mask) where
      c : Cell
      c = get_or cells i (0, 0)

      d : Cell
      d = get_or mask j (0, 0)

      left_here : Ascends h.low n (c ∷ drop (i + 1) cells)
      unfolding c
      left_here = subst (Ascends h.low n) (drop_more cells i (0, 0) l) h.left

      right_here : Ascends 0 n (d ∷ drop (j + 1) mask)
      unfolding d
      right_here = subst (Ascends 0 n) (drop_more mask j (0, 0) u) h.right

      same_here : (k : ℕ) → h.low ≤ k → at (d ∷ drop (j + 1) mask) k ≡ at mask k
      unfolding d
      same_here k g = ap (λ (cs : Row). at cs k) (sym (drop_more mask j (0, 0) u)) ∙ h.same k g

      listed_here : (b : Bool) → is_some (at mask c.0) ≡ b
          → h.more ++ (if b then c ∷ cells_shown mask (drop (i + 1) cells) else cells_shown mask (drop (i + 1) cells)) ≡ cells_shown mask cells
      unfolding c
      listed_here b e =
          ap (λ t. h.more ++ (if t then c ∷ cells_shown mask (drop (i + 1) cells) else cells_shown mask (drop (i + 1) cells))) (sym e)
          ∙ (ap (λ (cs : Row). h.more ++ cells_shown mask cs) (sym (drop_more cells i (0, 0) l)) ∙ h.listed)

      -- the mask's next column is further on
      cell_behind : c.0 < d.0 → IsShowing n (i + 1) j now
      cell_behind less =
          let a = left_here.0 in
          let none = sym (same_here c.0 a)
          ∙ at-below d.0 n (d ∷ drop (j + 1) mask) c.0 (omega arith, right_here.1, right_here.2) less in record {
            low = suc c.0;
            left = left_here.2;
            right = h.right;
            same = λ k g. h.same k (omega (arith, g, a));
            more = h.more;
            now_is = h.now_is;
            words = h.words;
            listed = listed_here false (ap is_some none);
          }

      right_rest : Ascends 0 n (drop (j + 1) mask)
      right_rest = ascends-weaken 0 (suc d.0) n (drop (j + 1) mask) (omega arith) right_here.2

      same_rest : (low k : ℕ) → h.low ≤ low → d.0 < k → low ≤ k → at (drop (j + 1) mask) k ≡ at mask k
      same_rest low k a b g = sym (at-after d (drop (j + 1) mask) k b) ∙ same_here k (omega (arith, a, g))

      -- the cell's is further on
      mask_behind : d.0 < c.0 → IsShowing n i (j + 1) now
      unfolding c
      mask_behind less =
          let a = left_here.0 in record {
            low = c.0;
            left = subst (Ascends c.0 n) (sym (drop_more cells i (0, 0) l)) (omega arith, left_here.1, left_here.2);
            right = right_rest;
            same = λ k g. same_rest c.0 k a (omega (arith, less, g)) g;
            more = h.more;
            now_is = h.now_is;
            words = h.words;
            listed = h.listed;
          }

      -- the cell is shown
      cell_shown : c.0 ≡ d.0 → c.1 < 2 ^ 64 → IsShowing n (i + 1) (j + 1) (now ++ c ∷ [])
      cell_shown equal w =
          let a = left_here.0 in
          let here = sym (same_here c.0 a) ∙ (ap (λ k. at (d ∷ drop (j + 1) mask) k) equal ∙ at-first d (drop (j + 1) mask)) in record {
            low = suc c.0;
            left = left_here.2;
            right = right_rest;
            same = λ k g. same_rest (suc c.0) k (omega (arith, a)) (omega (arith, equal, g)) g;
            more = h.more ++ c ∷ [];
            now_is = ap (λ (r : Row). r ++ c ∷ []) h.now_is ∙ append_assoc old h.more (c ∷ []);
            words = all_push (λ (x : Cell). x.1 < 2 ^ 64) h.more c h.words w;
            listed = append_assoc h.more (c ∷ []) (cells_shown mask (drop (i + 1) cells)) ∙ listed_here true (ap is_some here);
          }

-- ---- which column is further on, by flags

pub record Further (a b x p q : ℕ) : Type 0 where
  pub equal : x ≡ bool_byte (nat_eq a b)
  pub left : p ≡ bool_byte (leb a b)
  pub right : q ≡ bool_byte (leb b a)

by_order : {P : Type 0} (a b x p q : ℕ) → Further a b x p q → (a < b → x ≡ 0 → p ≡ 1 → q ≡ 0 → P) → (b < a → x ≡ 0 → p ≡ 0 → q ≡ 1 → P)
    → (a ≡ b → x ≡ 1 → p ≡ 1 → q ≡ 1 → P) → P
by_order a b x p q f less more same = elim (leb_tells a b) [
  | inl s ↦ elim (leb_tells b a) [
    | inl t ↦ (
        let e : a ≡ b = let g = s.1 in let k = t.1 in omega (arith, g, k) in
        same e (f.equal ∙ ap bool_byte (eq-eqb a b e)) (f.left ∙ ap bool_byte s.0) (f.right ∙ ap bool_byte t.0)
        )
    | inr t ↦ less t.1 (f.equal ∙ ap bool_byte (ne_eqb a b (λ e. let g = t.1 in omega (arith, g, e)))) (f.left ∙ ap bool_byte s.0)
        (f.right ∙ ap bool_byte t.0)
  ]
  | inr s ↦ more s.1 (f.equal ∙ ap bool_byte (ne_eqb a b (λ e. let g = s.1 in omega (arith, g, e)))) (f.left ∙ ap bool_byte s.0)
      (f.right ∙ ap bool_byte (le-leb b a (let g = s.1 in omega (arith, g))))
]

-- at least one is passed, and where a cell is put, both are
pub further_few : (a b x p q : ℕ) (now new : Row) (c : Cell) → Further a b x p q → new ≡ (if nat_eq x 0 then now else now ++ c ∷ [])
    → (1 ≤ p + q) × (length new ≤ length now + p) × (length new ≤ length now + q)
further_few a b x p q now new c f is = by_order a b x p q f
    (λ g x_is p_is q_is. let e = none x_is in (omega (arith, p_is), omega (arith, e), omega (arith, e)))
    (λ g x_is p_is q_is. let e = none x_is in (omega (arith, q_is), omega (arith, e), omega (arith, e)))
    (λ g x_is p_is q_is. let e = one x_is in (omega (arith, p_is), omega (arith, e, p_is), omega (arith, e, q_is)))
  where
    none : x ≡ 0 → length new ≡ length now
    none e = ap (λ (r : Row). length r) (is ∙ ap (λ k. if nat_eq k 0 then now else now ++ c ∷ []) e)

    one : x ≡ 1 → length new ≡ length now + 1
    one e = ap (λ (r : Row). length r) (is ∙ ap (λ k. if nat_eq k 0 then now else now ++ c ∷ []) e) ∙ length-append now (c ∷ [])

-- so one step is made
pub showing-step : (cells mask old : Row) (n i j : ℕ) (now : Row) → IsShowing cells mask old n i j now → i < length cells → j < length mask
    → (x p q : ℕ) → Further (get_or cells i (0, 0)).0 (get_or mask j (0, 0)).0 x p q → (get_or cells i (0, 0)).1 < 2 ^ 64 → (new : Row)
    → new ≡ (if nat_eq x 0 then now else now ++ get_or cells i (0, 0) ∷ []) → IsShowing cells mask old n (i + p) (j + q) new
unfolding c d
showing-step cells mask old n i j now h l u x p q f w new is = by_order _ _ x p q f
    (λ g x_is p_is q_is. moved (i + 1) j now (omega (arith, p_is)) (omega (arith, q_is)) (kept x_is) (cell_behind cells mask old n i j now h l u g))
    (λ g x_is p_is q_is. moved i (j + 1) now (omega (arith, p_is)) (omega (arith, q_is)) (kept x_is) (mask_behind cells mask old n i j now h l u g))
    (λ g x_is p_is q_is. moved (i + 1) (j + 1) (now ++ get_or cells i (0, 0) ∷ []) (omega (arith, p_is)) (omega (arith, q_is)) (put x_is)
    (cell_shown cells mask old n i j now h l u g w))
  where
    kept : x ≡ 0 → new ≡ now
    kept e = is ∙ ap (λ k. if nat_eq k 0 then now else now ++ get_or cells i (0, 0) ∷ []) e

    put : x ≡ 1 → new ≡ now ++ get_or cells i (0, 0) ∷ []
    put e = is ∙ ap (λ k. if nat_eq k 0 then now else now ++ get_or cells i (0, 0) ∷ []) e

    moved : (k m : ℕ) (r : Row) → i + p ≡ k → j + q ≡ m → new ≡ r → IsShowing cells mask old n k m r → IsShowing cells mask old n (i + p) (j + q) new
    moved k m r a b e s = subst (λ t. IsShowing cells mask old n t (j + q) new) (sym a)
        (subst (λ t. IsShowing cells mask old n k t new) (sym b) (subst (IsShowing cells mask old n k m) (sym e) s))
