-- Cells by ascending number, one for each position that repeats.
use Rattle.std.proofs.Common.{zero, suc, ◌≡◌, ◌≢◌, ◌≤◌, ◌<◌, ◌+◌, ◌-◌, ◌*◌, ◌/◌, ◌%◌, ℕ, true, false, cond, List, [], ◌∷◌, ◌++◌, ◌⊎◌, inl, inr, Option, None, Some, nat_eq, map, length, take, get_or, set, refl, sym, ap, ◌∙◌, subst, arith}
use Rattle.std.specs.Prelude.{slice_index}
use Rattle.std.proofs.lemmas.Bool.{cases_lt, eq-eqb, ne_eqb}
use Rattle.std.proofs.lemmas.Bool.Decides.{nat_tests, eqb_tells}
use Rattle.std.proofs.lemmas.List.{map_more, map-append, take_more, take_all, take-set-le, get_or-set_same, get_or-set_other, length-set, length-take-le, get_or-take, get_or-map, length-map}
use Rattle.std.specs.List.Sorted.{IsNonDecreasingBy}
use Rattle.std.specs.Map.{lookup}
use Rattle.std.specs.Ordering.{eq_by_cmp, nat_cmp, is_lt}
use Rattle.std.specs.FinMap.{is_sorted, get, from_entries, get-from_entries}
use Rattle.std.specs.FinMap.Entries.{find, below_all}
use Rattle.csr_store.specs.Grid.{Cell, Entry, Position, pos_cmp, limit}
use Rattle.csr_store.specs.Listed.{NoneTwice}
use Rattle.csr_store.specs.Packed.{unpacked}
use Rattle.csr_store.specs.Repeated.{times, mark_of, met_at}
use Rattle.csr_store.specs.Columns.{columns_of}
use Rattle.csr_store.specs.inner.Repeated.{BeginsRepeat, GoesOn, found_in, number_at, place_of}
use Rattle.csr_store.proofs.Order.{both_true, pos_total}
use Rattle.csr_store.proofs.InRow.{column_at, columns_rise, found_at, later_column, none_at}
use Rattle.csr_store.proofs.Listing.{find_last}
use Rattle.csr_store.proofs.Shuffled.{found_none}
use Rattle.csr_store.proofs.Repeating.{one_position, own_position, times-append, times-own, times-from_once, once-from_times, mark_some, mark_none, none_few}

place_exact : (m n : ℕ) → place_of m ≡ place_of n → m ≡ n
place_exact m n e =
    let a : m / limit ≡ n / limit = ap (λ (p : Position). p.0) e in
    let b : m % limit ≡ n % limit = ap (λ (p : Position). p.1) e in
    omega arith

apart : (m n : ℕ) → m ≢ n → eq_by_cmp pos_cmp (place_of m) (place_of n) ≡ false
apart m n d = elim (eq_by_cmp pos_cmp (place_of m) (place_of n)) as (λ b. eq_by_cmp pos_cmp (place_of m) (place_of n) ≡ b → b ≡ false) [
  | true ↦ λ t. absurd (d (place_exact m n (one_position (place_of m) (place_of n) t)))
  | false ↦ λ t. refl
] refl

-- ---- cells below a number

abbrev Below : ℕ → List Cell → Type 0
Below n cells = (k : ℕ) → k < length cells → number_at cells k < n

none_below : (n : ℕ) (cells : List Cell) → Below n cells → found_in cells (place_of n) ≡ None
none_below n [] h = refl
none_below n (c ∷ cells) h =
    let l = h 0 (omega arith) in
    ap (λ b. cond b (Some c.1) (found_in cells (place_of n))) (apart n c.0 (λ e. omega (arith, l, e)))
    ∙ none_below n cells (λ k s. h (suc k) (omega (arith, s)))

times_below : (n : ℕ) (cells : List Cell) → Below n cells → times (place_of n) (map unpacked cells) ≡ 0
times_below n [] h = refl
times_below n (c ∷ cells) h =
    let l = h 0 (omega arith) in
    ap (λ b. cond b (suc (times (place_of n) (map unpacked cells))) (times (place_of n) (map unpacked cells))) (apart n c.0 (λ e. omega (arith, l, e)))
    ∙ times_below n cells (λ k s. h (suc k) (omega (arith, s)))

below_push : (x n v : ℕ) (cells : List Cell) → below_all nat_cmp x cells ≡ true → x < n → below_all nat_cmp x (cells ++ (n, v) ∷ []) ≡ true
below_push x n v [] h l = grind (arith, nat_tests)
below_push x n v (c ∷ cells) h l = let t = both_true (is_lt (nat_cmp x c.0)) (below_all nat_cmp x cells) h in rw (t.0, below_push x n v cells t.1 l) refl

push_sorted : (n v : ℕ) (cells : List Cell) → is_sorted nat_cmp cells ≡ true → Below n cells → is_sorted nat_cmp (cells ++ (n, v) ∷ []) ≡ true
push_sorted n v [] h l = refl
push_sorted n v (c ∷ cells) h l =
    let t = both_true (below_all nat_cmp c.0 cells) (is_sorted nat_cmp cells) h in
    rw (below_push c.0 n v cells t.0 (l 0 (omega arith)), push_sorted n v cells t.1 (λ k s. l (suc k) (omega (arith, s)))) refl

-- ---- one cell for each position that repeats

-- the first so many cells are those of the positions that repeat among the first nth
pub record Kept (old now : List Cell) (kept nth : ℕ) : Type 0 where
  pub order : kept < nth
  pub most : kept ≤ length old
  pub count : length now ≡ length old
  pub same : (k : ℕ) → kept ≤ k → get_or now k (0, 0) ≡ get_or old k (0, 0)
  pub sorted : is_sorted nat_cmp (take kept now) ≡ true
  pub upto : 0 < kept → number_at now (kept - 1) ≤ number_at old (nth - 1)
  pub marks : (p : Position) → found_in (take kept now) p ≡ mark_of (times p (map unpacked (take nth old))) 0

one_cell : (p : Position) (cells : List Cell) → None ≡ mark_of (times p (map unpacked (take 1 cells))) 0
one_cell p [] = refl
one_cell p (c ∷ cells) = elim (eq_by_cmp pos_cmp p (place_of c.0)) as (λ b. None ≡ mark_of (cond b 1 0) 0) [
  | true ↦ refl
  | false ↦ refl
]

pub kept_none : (cells : List Cell) → Kept cells cells 0 1
kept_none cells =
    record {
      order = omega arith;
      most = omega arith;
      count = refl;
      same = λ k l. refl;
      sorted = refl;
      upto = λ l. absurd (omega arith);
      marks = λ p. one_cell p cells;
    }

module _ (old now : List Cell) (kept nth : ℕ) (up : IsNonDecreasingBy (λ (c : Cell). c.0) old) (h : Kept old now kept nth) (l : nth < length old) where
  abbrev number : ℕ
  number = number_at old nth

  abbrev front : List Cell
  front = take kept now

  kept_long : length front ≡ kept
  kept_long = let o = h.order in let c = h.count in length-take-le kept now (omega (arith, o, c, l))

  at_front : (k : ℕ) → k < kept → get_or front k (0, 0) ≡ get_or now k (0, 0)
  at_front k s = get_or-take kept now k (0, 0) s

  same_number : (k : ℕ) → kept ≤ k → number_at now k ≡ number_at old k
  same_number k s = ap (λ (c : Cell). c.0) (h.same k s)

  rises : number_at old (nth - 1) ≤ number
  rises = up (nth - 1) nth (0, 0) (omega arith) l

  times_more : (p : Position) → times p (map unpacked (take (nth + 1) old)) ≡ times p (map unpacked (take nth old)) + cond (eq_by_cmp pos_cmp p (place_of number)) 1 0
  times_more p =
      ap (times p) (map_more unpacked old nth (0, 0) l)
      ∙ times-append p (map unpacked (take nth old)) (unpacked (get_or old nth (0, 0)) ∷ [])

  upto_more : 0 < kept → number_at now (kept - 1) ≤ number_at old ((nth + 1) - 1)
  upto_more s = let a = h.upto s in let r = rises in let e : (nth + 1) - 1 ≡ nth = omega arith in subst (λ k. number_at now (kept - 1) ≤ number_at old k) (sym e) (omega (arith, a, r))

  -- a position that is kept already, or the first cell of one
  same_mark : GoesOn now kept nth → mark_of (times (place_of number) (map unpacked (take nth old))) 0 ≡ mark_of (times (place_of number) (map unpacked (take nth old)) + 1) 0
  same_mark g = elim (eqb_tells (number_at now (nth - 1)) (number_at now nth)) [
    | inl d ↦ again (g d.1)
    | inr d ↦ ap (λ t. mark_of t 0) (none d.1) ∙ ap (λ t. mark_of (t + 1) 0) (sym (none d.1))
  ]
    where
      here : number_at now nth ≡ number
      here = let o = h.order in same_number nth (omega (arith, o))

      before : number_at now (nth - 1) ≡ number_at old (nth - 1)
      before = let o = h.order in same_number (nth - 1) (omega (arith, o))

      none : (number_at now (nth - 1) ≡ number_at now nth → ⊥) → times (place_of number) (map unpacked (take nth old)) ≡ 0
      none d = times_below number (take nth old) (λ k s.
          let o = h.order in
          let c = length-take-le nth old (omega (arith, l)) in
          let e : number_at (take nth old) k ≡ number_at old k = ap (λ (x : Cell). x.0) (get_or-take nth old k (0, 0) (omega (arith, s, c))) in
          let low : number_at old k ≤ number_at old (nth - 1) = up k (nth - 1) (0, 0) (omega (arith, s, c)) (omega (arith, l)) in
          let r = rises in
          elim (eqb_tells (number_at old (nth - 1)) number) [
            | inl q ↦ absurd (d (before ∙ q.1 ∙ sym here))
            | inr q ↦ below (number_at (take nth old) k) (number_at old k) (number_at old (nth - 1)) number e low r q.1
          ])
        where
          below : (a b m x : ℕ) → a ≡ b → b ≤ m → m ≤ x → (m ≡ x → ⊥) → a < x
          below a b m x e f g q = grind arith

      again : (0 < kept) × (number_at now (kept - 1) ≡ number_at now nth) → mark_of (times (place_of number) (map unpacked (take nth old))) 0 ≡ mark_of (times (place_of number) (map unpacked (take nth old)) + 1) 0
      again a = elim (nat_tells (times (place_of number) (map unpacked (take nth old)))) [
        | inl t ↦ mark_some _ 0 t ∙ sym (mark_some _ 0 (omega (arith, t)))
        | inr t ↦ absurd (stands a (h.marks (place_of number) ∙ mark_none' _ t))
      ]
        where
          nat_tells : (m : ℕ) → (2 ≤ m) ⊎ (m < 2)
          nat_tells m = elim (cases_lt m 2) [
            | inl s ↦ inr s
            | inr s ↦ inl s
          ]

          mark_none' : (m : ℕ) → m < 2 → mark_of m 0 ≡ None
          mark_none' m s = mark_none m 0 s

          stands : (0 < kept) × (number_at now (kept - 1) ≡ number_at now nth) → found_in front (place_of number) ≡ None → ⊥
          stands b =
              let s = b.0 in
              let cell = get_or now (kept - 1) (0, 0) in
              let e : cell.0 ≡ number = b.1 ∙ here in
              let long = kept_long in
              let there : get_or (map unpacked front) (kept - 1) (place_of number, cell.1) ≡ (place_of number, cell.1) =
              get_or-map unpacked front (kept - 1) (0, 0) (place_of number, cell.1) (omega (arith, s, long))
              ∙ ap unpacked (at_front (kept - 1) (omega (arith, s))) ∙ ap (λ m. let x : Entry = (place_of m, cell.1) in x) e in
              found_none (map unpacked front) (place_of number) cell.1 (kept - 1) (let m = length-map front unpacked in omega (arith, s, long, m)) there

  pub kept_on : GoesOn now kept nth → Kept old now kept (nth + 1)
  kept_on g =
      record {
        order = let o = h.order in omega (arith, o);
        most = h.most;
        count = h.count;
        same = h.same;
        sorted = h.sorted;
        upto = upto_more;
        marks = λ p. h.marks p ∙ step p ∙ ap (λ t. mark_of t 0) (sym (times_more p));
      }
    where
      step : (p : Position) → mark_of (times p (map unpacked (take nth old))) 0 ≡ mark_of (times p (map unpacked (take nth old)) + cond (eq_by_cmp pos_cmp p (place_of number)) 1 0) 0
      step p = elim (eq_by_cmp pos_cmp p (place_of number)) as (λ b. eq_by_cmp pos_cmp p (place_of number) ≡ b → mark_of (times p (map unpacked (take nth old))) 0 ≡ mark_of (times p (map unpacked (take nth old)) + cond b 1 0) 0) [
        | true ↦ λ t. subst (λ q. mark_of (times q (map unpacked (take nth old))) 0 ≡ mark_of (times q (map unpacked (take nth old)) + 1) 0) (sym (one_position p (place_of number) t)) (same_mark g)
        | false ↦ λ t. ap (λ m. mark_of m 0) (let q : times p (map unpacked (take nth old)) ≡ times p (map unpacked (take nth old)) + 0 = omega arith in q)
      ] refl

  module _ (b : BeginsRepeat now kept nth) (new : List Cell) (put : new ≡ set now kept (number_at now nth, 0)) where
    inside : kept < length now
    inside = let o = h.order in let c = h.count in omega (arith, o, c, l)

    here : number_at now nth ≡ number
    here = let o = h.order in same_number nth (omega (arith, o))

    is : new ≡ set now kept (number, 0)
    is = put ∙ ap (λ (m : ℕ). set now kept (m, 0)) here

    before : number_at old (nth - 1) ≡ number
    before = let o = h.order in sym (same_number (nth - 1) (omega (arith, o))) ∙ b.again ∙ here

    below_front : Below number front
    below_front k s =
        let long = kept_long in
        let e : number_at front k ≡ number_at now k = ap (λ (c : Cell). c.0) (at_front k (omega (arith, s, long))) in
        let last : number_at front (kept - 1) ≡ number_at now (kept - 1) = ap (λ (c : Cell). c.0) (at_front (kept - 1) (omega (arith, s, long))) in
        let low : number_at front k ≤ number_at front (kept - 1) = columns_rise front h.sorted k (kept - 1) (0, 0) (omega (arith, s, long)) (omega (arith, s, long)) in
        let high = h.upto (omega (arith, s, long)) in
        let q = before in
        elim (eqb_tells (number_at now (kept - 1)) number) [
          | inl d ↦ absurd (b.first (omega (arith, s, long)) (d.1 ∙ sym here))
          | inr d ↦ strict (number_at front k) (number_at now (kept - 1)) number (omega (arith, low, last)) (omega (arith, high, q)) d.1
        ]
      where
        strict : (a m x : ℕ) → a ≤ m → m ≤ x → (m ≡ x → ⊥) → a < x
        strict a m x f g d = grind arith

    taken : take (kept + 1) new ≡ front ++ (number, 0) ∷ []
    taken =
        ap (take (kept + 1)) is ∙ take_more (set now kept (number, 0)) kept (0, 0) (let i = inside in let s = length-set now kept (number, 0) in omega (arith, i, s))
        ∙ ap (λ (xs : List Cell). xs ++ get_or (set now kept (number, 0)) kept (0, 0) ∷ []) (take-set-le kept now kept (number, 0) (omega arith))
        ∙ ap (λ (x : Cell). front ++ x ∷ []) (get_or-set_same now kept (number, 0) (0, 0) inside)

    absent : found_in front (place_of number) ≡ None
    absent = none_below number front below_front

    twice : times (place_of number) (map unpacked (take nth old)) ≡ 1
    twice =
        let few = none_few _ 0 (sym (h.marks (place_of number)) ∙ absent) in
        let some = at_least in
        omega (arith, few, some)
      where
        at_least : 1 ≤ times (place_of number) (map unpacked (take nth old))
        at_least =
            let o = h.order in
            let split : take nth old ≡ take (nth - 1) old ++ get_or old (nth - 1) (0, 0) ∷ [] =
            ap (λ k. take k old) (let q : nth ≡ (nth - 1) + 1 = omega (arith, o) in q) ∙ take_more old (nth - 1) (0, 0) (omega (arith, l)) in
            let cell = get_or old (nth - 1) (0, 0) in
            let e = ap (λ (xs : List Cell). times (place_of number) (map unpacked xs)) split ∙ ap (times (place_of number)) (map-append unpacked (take (nth - 1) old) (cell ∷ []))
            ∙ times-append (place_of number) (map unpacked (take (nth - 1) old)) (unpacked cell ∷ []) in
            let own : times (place_of number) (unpacked cell ∷ []) ≡ 1 = ap (λ m. times (place_of number) ((place_of m, cell.1) ∷ [])) before ∙ times-own (place_of number) cell.1 [] in
            omega (arith, e, own)

    pub kept_push : Kept old new (kept + 1) (nth + 1)
    kept_push =
        record {
          order = let o = h.order in omega (arith, o);
          most = let o = h.order in omega (arith, o, l);
          count = ap length is ∙ length-set now kept (number, 0) ∙ h.count;
          same = λ k s. ap (λ (xs : List Cell). get_or xs k (0, 0)) is ∙ get_or-set_other now kept k (number, 0) (0, 0) (λ q. omega (arith, s, q)) ∙ h.same k (omega (arith, s));
          sorted = ap (is_sorted nat_cmp) taken ∙ push_sorted number 0 front h.sorted below_front;
          upto = λ s. last;
          marks = λ p. ap (λ (xs : List Cell). found_in xs p) taken ∙ ap (find pos_cmp p) (map-append unpacked front ((number, 0) ∷ []))
              ∙ find_last p (place_of number) 0 (map unpacked front) absent ∙ step p ∙ ap (λ t. mark_of t 0) (sym (times_more p));
        }
      where
        last : number_at new ((kept + 1) - 1) ≤ number_at old ((nth + 1) - 1)
        last =
            let k : (kept + 1) - 1 ≡ kept = omega arith in
            let m : (nth + 1) - 1 ≡ nth = omega arith in
            let e : number_at new kept ≡ number = ap (λ (xs : List Cell). number_at xs kept) is ∙ ap (λ (x : Cell). x.0) (get_or-set_same now kept (number, 0) (0, 0) inside) in
            rw (k, m) (let f : number_at new kept ≤ number_at old nth = omega (arith, e) in f)

        step : (p : Position) → cond (eq_by_cmp pos_cmp p (place_of number)) (Some 0) (found_in front p) ≡ mark_of (times p (map unpacked (take nth old)) + cond (eq_by_cmp pos_cmp p (place_of number)) 1 0) 0
        step p = elim (eq_by_cmp pos_cmp p (place_of number)) as (λ t. eq_by_cmp pos_cmp p (place_of number) ≡ t → cond t (Some 0) (found_in front p) ≡ mark_of (times p (map unpacked (take nth old)) + cond t 1 0) 0) [
          | true ↦ λ t. subst (λ q. Some 0 ≡ mark_of (times q (map unpacked (take nth old)) + 1) 0) (sym (one_position p (place_of number) t)) (sym (mark_some _ 0 (let w = twice in omega (arith, w))))
          | false ↦ λ t. h.marks p ∙ ap (λ m. mark_of m 0) (let q : times p (map unpacked (take nth old)) ≡ times p (map unpacked (take nth old)) + 0 = omega arith in q)
        ] refl

-- all cells were gone over
pub kept_all : (old now : List Cell) (kept nth : ℕ) → Kept old now kept nth → length old ≤ nth
    → (is_sorted nat_cmp (take kept now) ≡ true) × ((p : Position) → found_in (take kept now) p ≡ mark_of (times p (map unpacked old)) 0)
kept_all old now kept nth h l =
    (h.sorted, λ p. h.marks p ∙ ap (λ (xs : List Cell). mark_of (times p (map unpacked xs)) 0) (take_all nth old l))

-- ---- the cell of a position is marked

same_tests : (m n : ℕ) → eq_by_cmp pos_cmp (place_of m) (place_of n) ≡ nat_eq m n
same_tests m n = elim (eqb_tells m n) [
  | inl d ↦ ap (λ k. eq_by_cmp pos_cmp (place_of m) (place_of k)) (sym d.1) ∙ own_position (place_of m) ∙ sym (eq-eqb m n d.1)
  | inr d ↦ apart m n d.1 ∙ sym (ne_eqb m n d.1)
]

found_lookup : (n : ℕ) (cells : List Cell) → found_in cells (place_of n) ≡ lookup (nat_eq n) cells
found_lookup n [] = refl
found_lookup n (c ∷ cells) =
    ap (λ b. cond b (Some c.1) (found_in cells (place_of n))) (same_tests n c.0) ∙ ap (λ o. cond (nat_eq n c.0) (Some c.1) o) (found_lookup n cells)

met_other : (q p : Position) (o : Option ℕ) → eq_by_cmp pos_cmp p q ≡ false → met_at q p o ≡ o
met_other q p None h = refl
met_other q p (Some m) h = ap (λ b. Some (cond b 1 m)) h

-- no cell has the position
pub none_there : (cells : List Cell) (n at : ℕ) → is_sorted nat_cmp cells ≡ true → ((k : ℕ) → k < at → slice_index (columns_of cells) k < n)
    → ((k : ℕ) → at ≤ k → k < length cells → n ≤ slice_index (columns_of cells) k) → at ≤ length cells → (at < length cells → number_at cells at ≡ n → ⊥) → found_in cells (place_of n) ≡ None
none_there cells n at s low high within d =
    found_lookup n cells ∙ none_at cells n at s low high (λ l q. d l (sym (column_at cells at (0, 0) l) ∙ q)) within

pub none_marked : (cells : List Cell) (n : ℕ) → found_in cells (place_of n) ≡ None → (p : Position) → found_in cells p ≡ met_at (place_of n) p (found_in cells p)
none_marked cells n h p = elim (eq_by_cmp pos_cmp p (place_of n)) as (λ b. eq_by_cmp pos_cmp p (place_of n) ≡ b → found_in cells p ≡ met_at (place_of n) p (found_in cells p)) [
  | true ↦ λ t. subst (λ q. found_in cells q ≡ met_at (place_of n) q (found_in cells q)) (sym (one_position p (place_of n) t)) (h ∙ sym (ap (met_at (place_of n) (place_of n)) h))
  | false ↦ λ t. sym (met_other (place_of n) p (found_in cells p) t)
] refl

pub some_there : (cells : List Cell) (n at : ℕ) → is_sorted nat_cmp cells ≡ true → at < length cells → number_at cells at ≡ n → found_in cells (place_of n) ≡ Some (get_or cells at (0, 0)).1
some_there cells n at h l e = found_lookup n cells ∙ found_at cells n at (0, 0) h l e

pub some_marked : (cells : List Cell) (n at : ℕ) → is_sorted nat_cmp cells ≡ true → at < length cells → number_at cells at ≡ n → (p : Position) → found_in (set cells at (n, 1)) p ≡ met_at (place_of n) p (found_in cells p)
some_marked [] n at h l e p = absurd (omega arith)
some_marked (c ∷ cells) n zero h l e p =
    elim (eq_by_cmp pos_cmp p (place_of n)) as (λ b. eq_by_cmp pos_cmp p (place_of n) ≡ b → cond b (Some 1) (found_in cells p) ≡ met_at (place_of n) p (cond b (Some c.1) (found_in cells p))) [
      | true ↦ λ t. ap (λ b. Some (cond b 1 c.1)) (sym t)
      | false ↦ λ t. sym (met_other (place_of n) p (found_in cells p) t)
    ] refl ∙ ap (λ m. met_at (place_of n) p (cond (eq_by_cmp pos_cmp p (place_of m)) (Some c.1) (found_in cells p))) (sym e)
some_marked (c ∷ cells) n (suc at) h l e p =
    elim (eq_by_cmp pos_cmp p (place_of c.0)) as (λ b. eq_by_cmp pos_cmp p (place_of c.0) ≡ b → cond b (Some c.1) (found_in (set cells at (n, 1)) p) ≡ met_at (place_of n) p (cond b (Some c.1) (found_in cells p))) [
      | true ↦ λ t. sym (met_other (place_of n) p (Some c.1) (ap (λ q. eq_by_cmp pos_cmp q (place_of n)) (one_position p (place_of c.0) t) ∙ apart c.0 n other))
      | false ↦ λ t. some_marked cells n at (both_true _ _ h).1 (omega (arith, l)) e p
    ] refl
  where
    other : c.0 ≢ n
    other q = let s = later_column c.0 cells at (0, 0) (both_true _ _ h).0 (omega (arith, l)) in omega (arith, s, e, q)

-- marks change no order
marked_below : (x n : ℕ) (cells : List Cell) (at : ℕ) → number_at cells at ≡ n → below_all nat_cmp x cells ≡ true → below_all nat_cmp x (set cells at (n, 1)) ≡ true
marked_below x n [] at e h = refl
marked_below x n (c ∷ cells) zero e h = let t = both_true (is_lt (nat_cmp x c.0)) (below_all nat_cmp x cells) h in rw (ap (λ m. is_lt (nat_cmp x m)) (sym e) ∙ t.0, t.1) refl
marked_below x n (c ∷ cells) (suc at) e h = let t = both_true (is_lt (nat_cmp x c.0)) (below_all nat_cmp x cells) h in rw (t.0, marked_below x n cells at e t.1) refl

pub marked_sorted : (cells : List Cell) (n at : ℕ) → number_at cells at ≡ n → is_sorted nat_cmp cells ≡ true → is_sorted nat_cmp (set cells at (n, 1)) ≡ true
marked_sorted [] n at e h = refl
marked_sorted (c ∷ cells) n zero e h = let t = both_true (below_all nat_cmp c.0 cells) (is_sorted nat_cmp cells) h in rw (ap (λ m. below_all nat_cmp m cells) (sym e) ∙ t.0, t.1) refl
marked_sorted (c ∷ cells) n (suc at) e h = let t = both_true (below_all nat_cmp c.0 cells) (is_sorted nat_cmp cells) h in rw (marked_below c.0 n cells at e t.0, marked_sorted cells n at e t.1) refl

-- ---- what is kept

-- where nothing is kept, no two cells have one position
pub once_kept : (cells kept : List Cell) → ((p : Position) → found_in kept p ≡ mark_of (times p (map unpacked cells)) 0) → length kept ≡ 0 → NoneTwice (map unpacked cells)
once_kept cells [] h e = once-from_times (map unpacked cells) (λ p. let few = none_few (times p (map unpacked cells)) 0 (sym (h p)) in omega (arith, few))
once_kept cells (c ∷ kept) h e = absurd (omega (arith, e))

pub twice_kept : (cells kept : List Cell) → ((p : Position) → found_in kept p ≡ mark_of (times p (map unpacked cells)) 0) → 0 < length kept → NoneTwice (map unpacked cells) → ⊥
twice_kept cells [] h l once = absurd (omega (arith, l))
twice_kept cells (c ∷ kept) h l once =
    let p = place_of c.0 in
    let few = times-from_once p (map unpacked cells) once in
    let here : found_in (c ∷ kept) p ≡ Some c.1 = ap (λ b. cond b (Some c.1) (found_in kept p)) (own_position p) in
    let none : found_in (c ∷ kept) p ≡ None = h p ∙ mark_none (times p (map unpacked cells)) 0 (omega (arith, few)) in
    absurd (some_not_none c.1 (sym here ∙ none))
  where
    some_not_none : (m : ℕ) → Some m ≡ None → ⊥
    some_not_none m e = cc

-- the place of a position's number
pub place_back : (row column : ℕ) → column < limit → place_of (row * limit + column) ≡ (row, column)
place_back row column l =
    let a : (row * limit + column) / limit ≡ row = omega arith in
    let b : (row * limit + column) % limit ≡ column = omega arith in
    both _ _ row column a b
  where
    both : (a b c d : ℕ) → a ≡ c → b ≡ d → (let p : Position = (a, b) in p) ≡ (c, d)
    both a b c d e f = cc

-- what the map of some cells has
pub marks_are : (cells : List Cell) (p : Position) → get (from_entries {R = pos_cmp} (map unpacked cells)) p ≡ found_in cells p
marks_are cells p = get-from_entries pos_total (map unpacked cells) p

-- ---- a search among numbers is one among places

same_test : (m n : ℕ) → eq_by_cmp pos_cmp (place_of m) (place_of n) ≡ nat_eq m n
same_test m n = elim (eqb_tells m n) [
  | inl d ↦ ap (λ k. eq_by_cmp pos_cmp (place_of m) (place_of k)) (sym d.1) ∙ own_position (place_of m) ∙ sym d.0
  | inr d ↦ apart m n d.1 ∙ sym d.0
]

found_number : (n : ℕ) (cells : List Cell) → found_in cells (place_of n) ≡ lookup (nat_eq n) cells
found_number n [] = refl
found_number n (c ∷ cells) =
    ap (λ b. cond b (Some c.1) (found_in cells (place_of n))) (same_test n c.0)
    ∙ ap (cond (nat_eq n c.0) (Some c.1)) (found_number n cells)

pub found_packed : (row column : ℕ) (cells : List Cell) → column < limit → found_in cells (row, column) ≡ lookup (nat_eq (row * limit + column)) cells
found_packed row column cells l = ap (found_in cells) (sym (place_back row column l)) ∙ found_number (row * limit + column) cells
