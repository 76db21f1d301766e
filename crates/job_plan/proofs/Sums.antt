-- Sums over rows that follow one another.
use Rattle.std.proofs.Common.{◌≡◌, ◌≤◌, ◌<◌, ◌+◌, ◌-◌, ◌*◌, ℕ, zero, suc, ap, ◌∙◌, refl, arith}
use Rattle.csr_store.specs.Along.{summed}

pub summed-le : (p q : ℕ → ℕ) (from n : ℕ) → ((i : ℕ) → p i ≤ q i) → summed p from n ≤ summed q from n
summed-le p q from zero h = omega arith
summed-le p q from (suc n) h = let a = h from in let b = summed-le p q (suc from) n h in omega arith

pub summed-split : (p : ℕ → ℕ) (from m n : ℕ) → summed p from (m + n) ≡ summed p from m + summed p (from + m) n
summed-split p from zero n =
    let a = ap (λ k. summed p from k) (let e : 0 + n ≡ n = omega arith in e) in
    let b = ap (λ k. summed p k n) (let e : from + 0 ≡ from = omega arith in e) in
    omega arith
summed-split p from (suc m) n =
    let a = ap (λ k. summed p from k) (let e : suc m + n ≡ suc (m + n) = omega arith in e) in
    let b = summed-split p (suc from) m n in
    let c = ap (λ k. summed p k n) (let e : suc from + m ≡ from + suc m = omega arith in e) in
    omega arith

-- a sum of products by one factor
pub summed-times : (p : ℕ → ℕ) (factor from n : ℕ) → summed (λ i. p i * factor) from n ≡ summed p from n * factor
summed-times p factor from zero = omega arith
summed-times p factor from (suc n) = let a = summed-times p factor (suc from) n in omega arith

pub summed-add : (p q : ℕ → ℕ) (from n : ℕ) → summed (λ i. p i + q i) from n ≡ summed p from n + summed q from n
summed-add p q from zero = omega arith
summed-add p q from (suc n) = let a = summed-add p q (suc from) n in omega arith

pub summed-none : (from n : ℕ) → summed (λ i. 0) from n ≡ 0
summed-none from zero = refl
summed-none from (suc n) = let a = summed-none (suc from) n in omega arith

-- the first of a range that isn't over
pub summed-next : (p : ℕ → ℕ) (i to : ℕ) → i < to → summed p i (to - i) ≡ p i + summed p (i + 1) (to - (i + 1))
summed-next p i to l =
    let e : to - i ≡ suc (to - (i + 1)) = omega arith in
    let s : suc i ≡ i + 1 = omega arith in
    ap (summed p i) e ∙ ap (λ k. p i + summed p k (to - (i + 1))) s

-- some rows have no more than all up to the last of them
pub summed-part : (p : ℕ → ℕ) (from n rows : ℕ) → from + n ≤ rows → summed p from n ≤ summed p 0 rows
summed-part p from n rows l =
    let e : from + (n + (rows - (from + n))) ≡ rows = omega arith in
    let a = ap (summed p 0) e in
    let b = summed-split p 0 from (n + (rows - (from + n))) in
    let c = ap (λ k. summed p k (n + (rows - (from + n)))) (let z : 0 + from ≡ from = omega arith in z) in
    let d = summed-split p from n (rows - (from + n)) in
    omega arith

-- rows that are added up, up to row i, and those that are left
pub record IsAdding (p : ℕ → ℕ) (from to i sum : ℕ) : Type 0 where
  pub added : sum + summed p i (to - i) ≡ summed p from (to - from)

pub adding_more : (p : ℕ → ℕ) (from to i sum more : ℕ) → IsAdding p from to i sum → i < to → more ≡ p i
    → IsAdding p from to (i + 1) (sum + more)
adding_more p from to i sum more a l e = record { added = let n = summed-next p i to l in let w = a.added in omega arith }

pub adding_room : (p : ℕ → ℕ) (from to i sum more : ℕ) → IsAdding p from to i sum → i < to → more ≡ p i
    → sum + more ≤ summed p from (to - from)
adding_room p from to i sum more a l e = let n = summed-next p i to l in let w = a.added in omega arith

pub adding_ends : (p : ℕ → ℕ) (from to i sum : ℕ) → IsAdding p from to i sum → to ≤ i → sum ≡ summed p from (to - from)
adding_ends p from to i sum a l =
    let z : to - i ≡ 0 = omega arith in let n = ap (summed p i) z in let w = a.added in omega arith
