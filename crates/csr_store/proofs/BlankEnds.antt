-- Ends of rows in front of all cells, which are only counted.
use Rattle.std.proofs.Common.{◌≡◌, ◌≤◌, ◌+◌, ◌-◌, ℕ, zero, suc, List, [], ◌∷◌, ◌++◌, length, map, take, replicate, refl, sym, ap, ◌∙◌, arith, append_assoc}
use Rattle.std.specs.List.{AllByRecursion}
use Rattle.std.proofs.lemmas.List.{map-append, take_all}

-- what holds of all holds of the last
pub all_last : (P : ℕ → Type 0) (xs ys : List ℕ) → AllByRecursion P (xs ++ ys) → AllByRecursion P ys
all_last P [] ys h = h
all_last P (x ∷ xs) ys h = all_last P xs ys h.1

pub map_zeros : (base n : ℕ) → map (λ e. base + e) (replicate n 0) ≡ replicate n base
map_zeros base zero = refl
map_zeros base (suc n) =
    let z : base + 0 ≡ base = omega arith in
    ap (λ x. x ∷ map (λ e. base + e) (replicate n 0)) z ∙ ap (λ (xs : List ℕ). base ∷ xs) (map_zeros base n)

-- the counted ones are put behind others, and then those that are listed
pub blank_and_listed : (base blank : ℕ) (old listed ends : List ℕ) → replicate blank 0 ++ listed ≡ ends
    → (old ++ replicate blank base) ++ map (λ e. base + e) listed ≡ old ++ map (λ e. base + e) ends
blank_and_listed base blank old listed ends e =
    let ends_are : map (λ e. base + e) ends ≡ replicate blank base ++ map (λ e. base + e) listed
    = ap (map (λ e. base + e)) (sym e)
    ∙ (map-append (λ e. base + e) (replicate blank 0) listed ∙ ap (λ (xs : List ℕ). xs ++ map (λ e. base + e) listed) (map_zeros base blank)) in
    append_assoc old (replicate blank base) (map (λ e. base + e) listed) ∙ ap (λ (xs : List ℕ). old ++ xs) (sym ends_are)

-- the others are filled up by the counted ones
pub filled_up : (base blank count size : ℕ) (old mid : List ℕ) → count ≡ size → size ≡ length old
    → mid ≡ take (count + blank) old ++ replicate (count + blank - size) base → mid ≡ old ++ replicate blank base
filled_up base blank count size old mid c s m =
    let l : length old ≤ count + blank = omega (arith, c, s) in
    let z : count + blank - size ≡ blank = omega (arith, c) in
    m ∙ (ap (λ (xs : List ℕ). xs ++ replicate (count + blank - size) base) (take_all (count + blank) old l) ∙ ap (λ k. old ++ replicate k base) z)
