-- Rising positions in parts of their range.
use Rattle.std.proofs.Common.{zero, suc, ◌≡◌, ◌≤◌, ◌<◌, ◌+◌, ◌-◌, ◌/◌, ◌^◌, ℕ, true, List, [], ◌∷◌, length, take, drop, set, refl, sym, ap, ◌∙◌, subst, inl, inr, arith}
use Rattle.std.specs.Prelude.{slice_index}
use Rattle.std.proofs.lemmas.Bool.{cases_lt}
use Rattle.std.proofs.lemmas.Bool.Decides.{eqb_tells}
use Rattle.std.proofs.lemmas.List.{get_or-drop, get_or-take, get_or-set_same, get_or-set_other, length-set, length-take-le, length-drop}
use Rattle.std.proofs.Math.Pow.{shr_mono}
use Rattle.std.specs.Ordering.{nat_cmp, is_lt}
use Rattle.std.specs.FinMap.{is_sorted}
use Rattle.std.specs.FinMap.Entries.{below_all}
use Rattle.csr_store.specs.Grid.{Cell}
use Rattle.csr_store.specs.Columns.{columns_of}
use Rattle.csr_store.specs.inner.Parts.{ArePartStarts, IsPartStart}
use Rattle.csr_store.specs.inner.Repeated.{number_at}
use Rattle.csr_store.proofs.Order.{both_true}
use Rattle.csr_store.proofs.InRow.{column_at, columns_rise}

-- ---- some of the cells in their order

below_drop : (x n : ℕ) (cells : List Cell) → below_all nat_cmp x cells ≡ true → below_all nat_cmp x (drop n cells) ≡ true
below_drop x zero cells h = h
below_drop x (suc n) [] h = refl
below_drop x (suc n) (c ∷ cells) h = below_drop x n cells (both_true _ _ h).1

below_take : (x n : ℕ) (cells : List Cell) → below_all nat_cmp x cells ≡ true → below_all nat_cmp x (take n cells) ≡ true
below_take x zero cells h = refl
below_take x (suc n) [] h = refl
below_take x (suc n) (c ∷ cells) h = let t = both_true (is_lt (nat_cmp x c.0)) (below_all nat_cmp x cells) h in rw (t.0, below_take x n cells t.1) refl

sorted_drop : (n : ℕ) (cells : List Cell) → is_sorted nat_cmp cells ≡ true → is_sorted nat_cmp (drop n cells) ≡ true
sorted_drop zero cells h = h
sorted_drop (suc n) [] h = refl
sorted_drop (suc n) (c ∷ cells) h = sorted_drop n cells (both_true _ _ h).1

sorted_take : (n : ℕ) (cells : List Cell) → is_sorted nat_cmp cells ≡ true → is_sorted nat_cmp (take n cells) ≡ true
sorted_take zero cells h = refl
sorted_take (suc n) [] h = refl
sorted_take (suc n) (c ∷ cells) h = let t = both_true (below_all nat_cmp c.0 cells) (is_sorted nat_cmp cells) h in rw (below_take c.0 n cells t.0, sorted_take n cells t.1) refl

pub sorted_part : (n m : ℕ) (cells : List Cell) → is_sorted nat_cmp cells ≡ true → is_sorted nat_cmp (take m (drop n cells)) ≡ true
sorted_part n m cells h = sorted_take m (drop n cells) (sorted_drop n cells h)

-- ---- a search in one part

-- a position that is in a part before that of another is before it
lower : (m n bits : ℕ) → m / 2 ^ bits < n / 2 ^ bits → m < n
lower m n bits h = elim (cases_lt m n) [
  | inl l ↦ l
  | inr g ↦ let q = shr_mono bits g in absurd (omega (arith, h, q))
]

module _ (cells : List Cell) (bits position from to at : ℕ) (start : IsPartStart cells bits (position / 2 ^ bits) from) (long : to ≤ length cells)
    (end : (k : ℕ) → to ≤ k → k < length cells → position / 2 ^ bits < number_at cells k / 2 ^ bits) where
  abbrev part : List Cell
  part = take (to - from) (drop from cells)

  part_long : length part ≡ to - from
  part_long = length-take-le (to - from) (drop from cells) (let d = length-drop from cells in omega (arith, d, long))

  in_part : (k : ℕ) → from ≤ k → k < to → slice_index (columns_of part) (k - from) ≡ number_at cells k
  in_part k g l =
      let p = part_long in
      column_at part (k - from) (0, 0) (omega (arith, g, l, p))
      ∙ ap (λ (c : Cell). c.0) (get_or-take (to - from) (drop from cells) (k - from) (0, 0) (omega (arith, g, l)) ∙ get_or-drop from cells (k - from) (0, 0))
      ∙ ap (λ i. number_at cells i) (let e : from + (k - from) ≡ k = omega (arith, g) in e)

  pub part_before : at ≤ length part → ((k : ℕ) → k < at → slice_index (columns_of part) k < position) → (k : ℕ) → k < from + at → slice_index (columns_of cells) k < position
  part_before within low k l =
      let p = part_long in
      let w = start.within in
      elim (cases_lt k from) [
        | inl b ↦ let c = column_at cells k (0, 0) (omega (arith, b, w)) in let q = lower (number_at cells k) position bits (start.before k b) in omega (arith, c, q)
        | inr g ↦
            let c = column_at cells k (0, 0) (omega (arith, g, l, within, p, long)) in
            let e = in_part k g (omega (arith, g, l, within, p)) in
            let q = low (k - from) (omega (arith, g, l)) in
            omega (arith, c, e, q)
      ]

  pub part_behind : ((k : ℕ) → at ≤ k → k < length part → position ≤ slice_index (columns_of part) k) → (k : ℕ) → from + at ≤ k → k < length cells → position ≤ slice_index (columns_of cells) k
  part_behind high k g l =
      let p = part_long in
      let c = column_at cells k (0, 0) l in
      elim (cases_lt k to) [
        | inl b ↦
            let e = in_part k (omega (arith, g)) b in
            let q = high (k - from) (omega (arith, g)) (omega (arith, g, b, p)) in
            omega (arith, c, e, q)
        | inr b ↦ let q = lower position (number_at cells k) bits (end k b l) in omega (arith, c, q)
      ]

-- ---- the table

-- the table up to a part, before which so many positions are
pub record Upto (positions starts old : List Cell) (bits part next : ℕ) : Type 0 where
  pub count : length starts ≡ length old
  pub within : next ≤ length positions
  pub before : (k : ℕ) → k < next → number_at positions k / 2 ^ bits < part
  pub table : (p : ℕ) → p < part → IsPartStart positions bits p (number_at starts p)

-- the positions that are left are in no part before this one
module _ (positions starts old new : List Cell) (bits part next : ℕ) (rise : is_sorted nat_cmp positions ≡ true) (h : Upto positions starts old bits part next)
    (stops : next < length positions → part ≤ number_at positions next / 2 ^ bits) where
  start_here : IsPartStart positions bits part next
  start_here =
      record {
        within = h.within;
        before = h.before;
        behind = λ k g l.
            let up = shr_mono bits (columns_rise positions rise next k (0, 0) g l) in
            let s = stops (omega (arith, g, l)) in
            omega (arith, up, s);
      }

  pub upto_next : part < length old → (x : ℕ) → new ≡ set starts part (next, x) → Upto positions new old bits (part + 1) next
  upto_next l x is =
      record {
        count = ap length is ∙ length-set starts part (next, x) ∙ h.count;
        within = h.within;
        before = λ k s. let b = h.before k s in omega (arith, b);
        table = λ p s. elim (eqb_tells p part) [
          | inl d ↦ subst (λ q. IsPartStart positions bits q (number_at new q)) (sym d.1) (subst (λ n. IsPartStart positions bits part n) (sym here) start_here)
          | inr d ↦ subst (λ n. IsPartStart positions bits p n) (sym (other p d.1)) (h.table p (below p d.1 s))
        ];
      }
    where
      here : number_at new part ≡ next
      here = ap (λ (xs : List Cell). number_at xs part) is ∙ ap (λ (c : Cell). c.0) (get_or-set_same starts part (next, x) (0, 0) (let c = h.count in omega (arith, l, c)))

      other : (p : ℕ) → (p ≡ part → ⊥) → number_at new p ≡ number_at starts p
      other p d = ap (λ (xs : List Cell). number_at xs p) is ∙ ap (λ (c : Cell). c.0) (get_or-set_other starts part p (next, x) (0, 0) d)

      below : (p : ℕ) → (p ≡ part → ⊥) → p < part + 1 → p < part
      below p d s = grind arith

-- a cell gets another value
pub starts_same : (positions starts : List Cell) (bits at n x : ℕ) → number_at positions at ≡ n → ArePartStarts positions bits starts → ArePartStarts (set positions at (n, x)) bits starts
starts_same positions starts bits at n x e h p l =
    let s = h p l in
    let m = length-set positions at (n, x) in
    record {
      within = let w = s.within in omega (arith, w, m);
      before = λ k b. subst (λ i. i / 2 ^ bits < p) (sym (same k (let w = s.within in omega (arith, b, w)))) (s.before k b);
      behind = λ k b f. subst (λ i. p ≤ i / 2 ^ bits) (sym (same k (omega (arith, f, m)))) (s.behind k b (omega (arith, f, m)));
    }
  where
    same : (k : ℕ) → k < length positions → number_at (set positions at (n, x)) k ≡ number_at positions k
    same k b = elim (eqb_tells k at) [
      | inl d ↦ subst (λ i. number_at (set positions at (n, x)) i ≡ number_at positions i) (sym d.1)
          (ap (λ (c : Cell). c.0) (get_or-set_same positions at (n, x) (0, 0) (subst (λ i. i < length positions) d.1 b)) ∙ sym e)
      | inr d ↦ ap (λ (c : Cell). c.0) (get_or-set_other positions at k (n, x) (0, 0) d.1)
    ]
