-- Digits, one after another.
use Rattle.std.proofs.Common.{◌≡◌, ◌≤◌, ◌<◌, ◌+◌, ◌-◌, ◌*◌, ◌^◌, ◌%◌, ℕ, suc, List, []}
use Rattle.std.proofs.Common.{◌∷◌, ◌++◌, true, length, take, drop, get_or, sym, ap, ◌∙◌}
use Rattle.std.proofs.Common.{subst, arith, length-append}
use Rattle.std.specs.Char.{is_ascii_digit}
use Rattle.std.specs.List.{slice_range}
use Rattle.std.proofs.Math.Seq.{take-suc}
use Rattle.std.proofs.Math.Nat.{pow-succ'}
use Rattle.std.proofs.lemmas.List.{get_or-drop}
use Rattle.std.proofs.Common.{length-drop}
use Rattle.std.proofs.lemmas.Bool.Decides.{nat_tests}
use Rattle.matrix_market.specs.inner.Usual.{Scanned}
use Rattle.text_words.proofs.Written.{digits_more}

pow_more : (n : ℕ) → 10 ^ (n + 1) ≡ 10 * 10 ^ n
pow_more n = ap (λ k. 10 ^ k) (let e : n + 1 ≡ suc n = omega arith in e) ∙ pow-succ' 10 n

mod_step : (v w x d : ℕ) → v ≡ x % 2 ^ 64 → w ≡ (v * 10 % 2 ^ 64 + d) % 2 ^ 64 → w ≡ (x * 10 + d) % 2 ^ 64
mod_step v w x d e f = omega arith

pub scanned_more : (ds : List ℕ) (v w b : ℕ) → Scanned ds v → is_ascii_digit b ≡ true
    → w ≡ (v * 10 % 2 ^ 64 + (b - 48)) % 2 ^ 64 → Scanned (ds ++ b ∷ []) w
scanned_more ds v w b s d e =
    let nine : b - 48 ≤ 9 = grind (arith, nat_tests) in
    let l : length (ds ++ b ∷ []) ≡ length ds + 1 = length-append ds (b ∷ []) in
    let p : 10 ^ length (ds ++ b ∷ []) ≡ 10 * 10 ^ length ds = ap (λ n. 10 ^ n) l ∙ pow_more (length ds) in
    record {
      whole = s.whole * 10 + (b - 48);
      is = digits_more 0 s.whole b ds s.is d;
      below = let h = s.below in omega arith;
      held = mod_step v w s.whole (b - 48) s.held e;
    }

-- a part that is longer by one
pub range_more : (xs : List ℕ) (i j : ℕ) → i ≤ j → j < length xs
    → slice_range xs i (j + 1) ≡ slice_range xs i j ++ get_or xs j 0 ∷ []
range_more xs i j a b =
    let e : (j + 1) - i ≡ suc (j - i) = omega arith in
    let l : j - i < length (drop i xs) = simp length-drop (omega arith) in
    let g : get_or (drop i xs) (j - i) 0 ≡ get_or xs j 0 = get_or-drop i xs (j - i) 0 ∙ ap (λ k. get_or xs k 0) (let q : i + (j - i) ≡ j = omega arith in q) in
    ap (λ k. take k (drop i xs)) e ∙ (take-suc (drop i xs) (j - i) 0 l ∙ ap (λ x. take (j - i) (drop i xs) ++ x ∷ []) g)

pub scanned_next : (xs : List ℕ) (i j v w : ℕ) → i ≤ j → j < length xs → Scanned (slice_range xs i j) v
    → is_ascii_digit (get_or xs j 0) ≡ true → w ≡ (v * 10 % 2 ^ 64 + (get_or xs j 0 - 48)) % 2 ^ 64
    → Scanned (slice_range xs i (j + 1)) w
scanned_next xs i j v w a b s d e = subst (λ (ds : List ℕ). Scanned ds w) (sym (range_more xs i j a b)) (scanned_more (slice_range xs i j) v w (get_or xs j 0) s d e)

-- a part whose end is written otherwise
pub scanned_at : (xs : List ℕ) (i j k v : ℕ) → j ≡ k → Scanned (slice_range xs i j) v → Scanned (slice_range xs i k) v
scanned_at xs i j k v e s = subst (λ (n : ℕ). Scanned (slice_range xs i n) v) e s

pub is_digit : (b : ℕ) → b < 256 → (b + 208) % 256 ≤ 9 → is_ascii_digit b ≡ true
is_digit b f h =
    let low : 48 ≤ b = omega arith in
    let high : b ≤ 57 = omega arith in
    grind (arith, nat_tests)

pub less : (b : ℕ) → b < 256 → (b + 208) % 256 ≤ 9 → (b + 208) % 256 ≡ b - 48
less b f h = omega arith

pub not_ten : {b : ℕ} → is_ascii_digit b ≡ true → b ≡ 10 → ⊥
not_ten {b} d e = grind (arith, nat_tests)
