-- Columns by their bits, in words of 64: a bit that is set, words that are cleared, and one that is read off from its lowest bit on.
use Rattle.std.proofs.Common.{◌≡◌, ◌≢◌, ℕ, zero, suc, ◌+◌, ◌-◌, ◌*◌, ◌/◌, ◌%◌, ◌^◌, ◌<◌, ◌≤◌, ◌++◌, w64, List, [], ◌∷◌, Option, None, Some, length, get_or, set, refl, sym, ap, ◌∙◌, subst, inl, inr, arith, get_or-set_same, get_or-set_other}
use Rattle.std.proofs.Math.ListN.{length-set}
use Rattle.std.proofs.lemmas.List.{get_or_past}
use Rattle.std.proofs.lemmas.Bool.Decides.{eqb_tells}
use Rattle.std.proofs.Math.Nat.{div-div-eq-div-mul}
use Rattle.std.proofs.lemmas.Nat.{pow-add, shr_le}
use Rattle.std.proofs.lemmas.Nat.Bits.{bit_at_set_same, bit_at_set_other, bit_at-trailing_zeros, bit_at-zero}
use Rattle.std.specs.Int.{bit_at, trailing_zeros}
use Rattle.std.specs.List.{Contains}
use Rattle.std.specs.Int.RustNames.{bit_or}
use Rattle.csr_store.specs.Run.{Run}
use Rattle.csr_store.specs.Along.{cell_at}
use Rattle.row_product.specs.inner.DenseSums.{bit_of}
use Rattle.row_product.proofs.Putting.{Putting, putting_skip, putting_cell, other_one, none_contained}

-- ---- a bit that is set

pub bit_set : (bits : List ℕ) (j : ℕ) → j < 64 * length bits
    → bit_of (set bits (j / 64) (bit_or (get_or bits (j / 64) 0) (1 * 2 ^ (j % 64) % 2 ^ 64))) j ≡ 1
bit_set bits j l =
    ap (λ w. bit_at w (j % 64)) (get_or-set_same bits (j / 64) (bit_or (get_or bits (j / 64) 0) (1 * 2 ^ (j % 64) % 2 ^ 64)) 0
    (omega (arith, l)))
    ∙ bit_at_set_same w64 (get_or bits (j / 64) 0) (j % 64) (omega arith)

pub bit_other : (bits : List ℕ) (j i : ℕ) → j < 64 * length bits → i ≢ j
    → bit_of (set bits (j / 64) (bit_or (get_or bits (j / 64) 0) (1 * 2 ^ (j % 64) % 2 ^ 64))) i ≡ bit_of bits i
bit_other bits j i l ne = elim (eqb_tells (i / 64) (j / 64)) [
  | inl d ↦ elim (eqb_tells (i % 64) (j % 64)) [
    | inl e ↦ absurd (ne (let q = d.1 in let r = e.1 in omega (arith, q, r)))
    | inr e ↦
        ap (λ k. bit_at (get_or (set bits (j / 64) (bit_or (get_or bits (j / 64) 0) (1 * 2 ^ (j % 64) % 2 ^ 64))) k 0) (i % 64)) d.1
        ∙ (ap (λ w. bit_at w (i % 64)) (get_or-set_same bits (j / 64) (bit_or (get_or bits (j / 64) 0) (1 * 2 ^
        (j % 64) % 2 ^ 64)) 0
        (omega (arith, l)))
        ∙ (bit_at_set_other w64 (get_or bits (j / 64) 0) (j % 64) (omega arith) (i % 64) e.1
        ∙ ap (λ k. bit_at (get_or bits k 0) (i % 64)) (sym d.1)))
  ]
  | inr d ↦ ap (λ w. bit_at w (i % 64)) (get_or-set_other bits (j / 64) (i / 64)
      (bit_or (get_or bits (j / 64) 0) (1 * 2 ^ (j % 64) % 2 ^ 64)) 0 d.1)
]

-- ---- a word of bits that is cleared

zeroed : (bits : List ℕ) (p : ℕ) → get_or (set bits p 0) p 0 ≡ 0
zeroed [] zero = refl
zeroed [] (suc p) = refl
zeroed (b ∷ bits) zero = refl
zeroed (b ∷ bits) (suc p) = zeroed bits p

pub bit_cleared : (bits : List ℕ) (p j : ℕ) → j / 64 ≡ p → bit_of (set bits p 0) j ≡ 0
bit_cleared bits p j e =
    ap (λ k. bit_at (get_or (set bits p 0) k 0) (j % 64)) e ∙ (ap (λ w. bit_at w (j % 64)) (zeroed bits p) ∙ bit_at-zero (j % 64))

pub bit_stays_clear : (bits : List ℕ) (p j : ℕ) → bit_of bits j ≡ 0 → bit_of (set bits p 0) j ≡ 0
bit_stays_clear bits p j h = elim (eqb_tells (j / 64) p) [
  | inl d ↦ bit_cleared bits p j d.1
  | inr d ↦ ap (λ w. bit_at w (j % 64)) (get_or-set_other bits p (j / 64) 0 0 d.1) ∙ h
]

pub bit_past : (bits : List ℕ) (j : ℕ) → length bits ≤ j / 64 → bit_of bits j ≡ 0
bit_past bits j l = ap (λ w. bit_at w (j % 64)) (get_or_past bits (j / 64) 0 l) ∙ bit_at-zero (j % 64)

-- words of bits before this place are cleared, and no bit is set anew
pub record IsCleared (first : List ℕ) (nth : ℕ) (bits : List ℕ) : Type 0 where
  pub long : length bits ≡ length first
  pub clear : (j : ℕ) → j / 64 < nth → bit_of bits j ≡ 0
  pub kept : (j : ℕ) → bit_of first j ≡ 0 → bit_of bits j ≡ 0

pub cleared_start : (first : List ℕ) → IsCleared first 0 first
cleared_start first = record { long = refl; clear = λ j l. absurd (omega (arith, l)); kept = λ j h. h }

pub cleared_step : (first : List ℕ) (nth : ℕ) (bits : List ℕ) → IsCleared first nth bits → IsCleared first (nth + 1) (set bits nth 0)
cleared_step first nth bits m = record {
  long = length-set bits nth 0 ∙ m.long;
  clear = λ j l. elim (eqb_tells (j / 64) nth) [
    | inl d ↦ bit_cleared bits nth j d.1
    | inr d ↦ bit_stays_clear bits nth j (m.clear j (let n = d.1 in omega (arith, l, n)))
  ];
  kept = λ j h. bit_stays_clear bits nth j (m.kept j h);
}

-- bits of listed columns that are no more among those left are cleared, and no bit is set anew
pub record AreForgotten (first listed rest bits : List ℕ) : Type 0 where
  pub long : length bits ≡ length first
  pub clear : (j : ℕ) → Contains listed j → (Contains rest j → ⊥) → bit_of bits j ≡ 0
  pub kept : (j : ℕ) → bit_of first j ≡ 0 → bit_of bits j ≡ 0

pub forgotten_start : (first listed : List ℕ) → AreForgotten first listed listed first
forgotten_start first listed = record { long = refl; clear = λ j l n. absurd (n l); kept = λ j h. h }

pub forgotten_step : (first listed rest bits : List ℕ) (k : ℕ) (ks next : List ℕ) → AreForgotten first listed rest bits
    → rest ≡ k ∷ ks → length next ≡ length bits → bit_of next k ≡ 0 → ((j : ℕ) → bit_of bits j ≡ 0 → bit_of next j ≡ 0)
    → AreForgotten first listed ks next
forgotten_step first listed rest bits k ks next m e long here kept = record {
  long = long ∙ m.long;
  clear = λ j l n. elim (eqb_tells j k) [
    | inl d ↦ ap (bit_of next) d.1 ∙ here
    | inr d ↦ kept j (m.clear j l (λ r. n (other_one k ks j d.1 (subst (λ us. Contains us j) e r))))
  ];
  kept = λ j h. kept j (m.kept j h);
}

pub forgotten_end : (first listed rest bits : List ℕ) (j : ℕ) → AreForgotten first listed rest bits → rest ≡ [] → Contains listed j
    → bit_of bits j ≡ 0
forgotten_end first listed rest bits j m e l = m.clear j l (λ r. none_contained j (subst (λ us. Contains us j) e r))

-- ---- a word that is read off

-- the columns from p up to q that have something have their bit in what is left of a word
pub record Reading (n : ℕ) (whole : ℕ → Option ℕ) (from : Run) (q p left : ℕ) (now : Run) : Type 0 where
  pub putting : Putting n whole from p now
  pub within : p ≤ q
  pub inside : q ≤ n
  pub small : left < 2 ^ 64
  pub covers : (j v : ℕ) → p ≤ j → j < q → whole j ≡ Some v → bit_at left (j - p) ≡ 1

low_clear : (left i : ℕ) → left < 2 ^ 64 → i < trailing_zeros w64 left → bit_at left i ≡ 0
low_clear zero i s l = bit_at-zero i
low_clear (suc k) i s l = (bit_at-trailing_zeros w64 (suc k) (omega arith) s).2 i l

no_sum : (whole : ℕ → Option ℕ) (j b : ℕ) (o : Option ℕ) → whole j ≡ o → b ≡ 0 → ((v : ℕ) → whole j ≡ Some v → b ≡ 1) → o ≡ None
no_sum whole j b None e z h = refl
no_sum whole j b (Some v) e z h = absurd (let o = h v e in omega (arith, o, z))

skipped : (n : ℕ) (whole : ℕ → Option ℕ) (from : Run) (q p left to : ℕ) (now : Run) → Reading n whole from q p left now
    → p ≤ to → to ≤ q → to ≤ p + trailing_zeros w64 left → Putting n whole from to now
skipped n whole from q p left to now m a b z =
    let i = m.inside in
    putting_skip n whole from p to now m.putting a (omega (arith, b, i))
    (λ j l u. no_sum whole j (bit_at left (j - p)) (whole j) refl (low_clear left (j - p) m.small (omega (arith, l, u, z)))
    (λ v e. m.covers j v l (omega (arith, u, b)) e))

shifted : (left s i : ℕ) → bit_at (left / 2 ^ s / 2 ^ 1) i ≡ bit_at left (s + 1 + i)
shifted left s i =
    ap (λ n. n / 2 ^ i % 2) (div-div-eq-div-mul left (2 ^ s) (2 ^ 1))
    ∙ (ap (λ n. n % 2) (div-div-eq-div-mul left (2 ^ s * 2 ^ 1) (2 ^ i))
    ∙ ap (λ n. left / n % 2) (sym (pow-add 2 (s + 1) i ∙ ap (λ n. n * 2 ^ i) (pow-add 2 s 1))))

smaller : (left s : ℕ) → left < 2 ^ 64 → left / 2 ^ s / 2 ^ 1 < 2 ^ 64
smaller left s h = let a = shr_le left s in let b = shr_le (left / 2 ^ s) 1 in omega (arith, a, b, h)

pub reading_step : (n : ℕ) (whole : ℕ → Option ℕ) (from : Run) (q p left : ℕ) (now next : Run) → Reading n whole from q p left now
    → trailing_zeros w64 left < q - p
    → next ≡ record now { opened = now.opened ++ cell_at (p + trailing_zeros w64 left) (whole (p + trailing_zeros w64 left)) }
    → Reading n whole from q (p + trailing_zeros w64 left + 1) (left / 2 ^ trailing_zeros w64 left / 2 ^ 1) next
reading_step n whole from q p left now next m l r =
    let s = trailing_zeros w64 left in
    let i = m.inside in
    record {
      putting = putting_cell n whole from (p + s) now (whole (p + s)) next
          (skipped n whole from q p left (p + s) now m (omega arith) (omega (arith, l)) (omega arith)) (omega (arith, l, i)) refl r;
      within = omega (arith, l);
      inside = i;
      small = smaller left s m.small;
      covers = λ j v a b e. shifted left s (j - (p + s + 1))
          ∙ (ap (bit_at left) (let k : s + 1 + (j - (p + s + 1)) ≡ j - p = omega (arith, a) in k)
          ∙ m.covers j v (omega (arith, a)) b e);
    }

pub reading_end : (n : ℕ) (whole : ℕ → Option ℕ) (from : Run) (q p left : ℕ) (now : Run) → Reading n whole from q p left now
    → q - p ≤ trailing_zeros w64 left → Putting n whole from q now
reading_end n whole from q p left now m l =
    let w = m.within in skipped n whole from q p left q now m w (omega arith) (omega (arith, l, w))
