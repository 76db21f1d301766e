-- What is listed for numbers in a row: taken off from the front, put on at the end, and added up.
use Rattle.std.proofs.Common.{◌≡◌, ◌<◌, ◌≤◌, ℕ, zero, suc, ◌+◌, ◌-◌, List, [], ◌∷◌, ◌++◌, length, drop, refl, sym, ap, ◌∙◌, arith}
use Rattle.std.proofs.Math.Seq.{drop-append_seam}
use Rattle.csr_store.specs.Along.{along, summed}
use Rattle.csr_store.proofs.Along.{along-next}
use Rattle.job_runner.specs.inner.Pieces.{listed, BeginsWith}
use Rattle.job_runner.proofs.Located.{ones-length}

module _ {T : Type 0} where
  first_same : (x y : T) (xs ys : List T) → x ∷ xs ≡ y ∷ ys → (x ≡ y) × (xs ≡ ys)
  first_same x y xs ys e = (cc, cc)

  -- the next of those that are left
  pub next-listed : (f : ℕ → T) (i n : ℕ) (x : T) (xs others : List T) → i < n → x ∷ xs ≡ along (λ c. f c ∷ []) i (n - i) ++ others
      → (x ≡ f i) × (xs ≡ along (λ c. f c ∷ []) (i + 1) (n - (i + 1)) ++ others)
  next-listed f i n x xs others l h =
      first_same x (f i) xs (along (λ c. f c ∷ []) (i + 1) (n - (i + 1)) ++ others)
      (h ∙ ap (λ ys. ys ++ others) (along-next (λ c. f c ∷ []) i n l))

  pub none-listed : (f : ℕ → T) (i n : ℕ) (xs others : List T) → i < n → xs ≡ along (λ c. f c ∷ []) i (n - i) ++ others
      → length xs ≡ 0 → ⊥
  none-listed f i n xs others l h z =
      let e = ap length (h ∙ ap (λ ys. ys ++ others) (along-next (λ c. f c ∷ []) i n l)) in omega (arith, e, z)

  pub listed-length : (f : ℕ → T) (n : ℕ) → length (listed f n) ≡ n
  listed-length f n = ones-length f 0 n

  pub drop-listed : (f : ℕ → T) (n : ℕ) (xs others : List T) → xs ≡ listed f n ++ others → drop n xs ≡ others
  drop-listed f n xs others h =
      ap (drop n) h ∙ ap (λ k. drop k (listed f n ++ others)) (sym (listed-length f n)) ∙ drop-append_seam (listed f n) others

  pub begins-append : (f : ℕ → T) (n : ℕ) (xs others : List T) → xs ≡ listed f n ++ others → BeginsWith f n xs
  begins-append f n xs others h = h ∙ ap (λ ys. listed f n ++ ys) (sym (drop-listed f n xs others h))

  -- numbers counted from further on
  pub along-shift : (g : ℕ → List T) (k from n : ℕ) → along g (k + from) n ≡ along (λ c. g (k + c)) from n
  along-shift g k from zero = refl
  along-shift g k from (suc n) =
      let e : suc (k + from) ≡ k + suc from = omega arith in
      ap (λ m. g (k + from) ++ along g m n) e ∙ ap (λ ys. g (k + from) ++ ys) (along-shift g k (suc from) n)

-- ---- sums

pub summed-next : (p : ℕ → ℕ) (i n : ℕ) → i < n → summed p i (n - i) ≡ p i + summed p (i + 1) (n - (i + 1))
summed-next p i n l =
    let e : n - i ≡ suc (n - (i + 1)) = omega (arith, l) in
    let s : suc i ≡ i + 1 = omega arith in
    ap (summed p i) e ∙ ap (λ k. p i + summed p k (n - (i + 1))) s

-- the sum so far, and what is left of it
pub summed-step : (p : ℕ → ℕ) (i n so_far x all : ℕ) → i < n → so_far + summed p i (n - i) ≡ all → x ≡ p i
    → so_far + x + summed p (i + 1) (n - (i + 1)) ≡ all
summed-step p i n so_far x all l h e = let s = summed-next p i n l in omega (arith, h, e, s)

pub summed-room : (p : ℕ → ℕ) (i n so_far x all : ℕ) → i < n → so_far + summed p i (n - i) ≡ all → x ≤ p i → so_far + x ≤ all
summed-room p i n so_far x all l h e = let s = summed-next p i n l in omega (arith, h, e, s)

pub summed-split : (p : ℕ → ℕ) (from m n : ℕ) → summed p from (m + n) ≡ summed p from m + summed p (from + m) n
summed-split p from zero n =
    let e : 0 + n ≡ n = omega arith in
    let f : from + 0 ≡ from = omega arith in
    let a = ap (λ k. summed p from k) e in
    let b = ap (λ k. summed p k n) f in
    omega (arith, a, b)
summed-split p from (suc m) n =
    let e : suc m + n ≡ suc (m + n) = omega arith in
    let f : suc from + m ≡ from + suc m = omega arith in
    let a = ap (λ k. summed p from k) e in
    let b = summed-split p (suc from) m n in
    let c = ap (λ k. summed p k n) f in
    omega (arith, a, b, c)

pub summed-shift : (p : ℕ → ℕ) (k from n : ℕ) → summed p (k + from) n ≡ summed (λ c. p (k + c)) from n
summed-shift p k from zero = refl
summed-shift p k from (suc n) =
    let e : suc (k + from) ≡ k + suc from = omega arith in
    let a = ap (λ m. summed p m n) e in
    let b = summed-shift p k (suc from) n in
    omega (arith, a, b)

pub summed-same : (p q : ℕ → ℕ) (from n : ℕ) → ((k : ℕ) → from ≤ k → k < from + n → p k ≡ q k) → summed p from n ≡ summed q from n
summed-same p q from zero h = refl
summed-same p q from (suc n) h =
    let a = h from (omega arith) (omega arith) in
    let b = summed-same p q (suc from) n (λ k l u. h k (omega (arith, l)) (omega (arith, u))) in
    omega (arith, a, b)
