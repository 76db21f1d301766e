-- The order of positions, and of entries by their positions.
use Rattle.std.proofs.Common.{◌≡◌, ℕ, Bool, true, false, ◌&&◌, nat_eq, refl, ap, ◌∙◌, arith}
use Rattle.std.specs.declared.cmp.Ordering.{Ordering}
use Rattle.std.specs.declared.cmp.Ordering.TheVariants.{Less, Equal, Greater}
use Rattle.std.specs.Ordering.{nat_cmp, ordering_then, is_eq}
use Rattle.std.specs.Cmp.{IsTotalOrder, nat_cmp_total}
use Rattle.std.proofs.lemmas.Cmp.{on_total, then_total}
use Rattle.std.proofs.lemmas.Map.Lookups.{CmpEqualImpliesEq, exact_pairs, exact_unsigned}
use Rattle.std.proofs.lemmas.Bool.Decides.{nat_tests}
use Rattle.csr_store.specs.Grid.{Position, pos_cmp}

pub pos_total : IsTotalOrder pos_cmp
pos_total = then_total (on_total (λ (p : Position). p.0) nat_cmp_total) (on_total (λ (p : Position). p.1) nat_cmp_total)

-- positions that tie are equal
pub pos_exact : CmpEqualImpliesEq pos_cmp
pos_exact = exact_pairs nat_cmp nat_cmp exact_unsigned exact_unsigned

pub is_eq-then : (a b : Ordering) → is_eq (ordering_then a b) ≡ (is_eq a && is_eq b)
is_eq-then Less b = refl
is_eq-then Equal b = refl
is_eq-then Greater b = refl

nat_eq-sym : (a b : ℕ) → nat_eq a b ≡ nat_eq b a
nat_eq-sym a b = grind (arith, nat_tests)

is_eq-nat_cmp : (i x : ℕ) → is_eq (nat_cmp i x) ≡ nat_eq x i
is_eq-nat_cmp i x = grind (arith, nat_tests)

-- a position ties with another exactly where both indices are equal
pub is_eq-pos_cmp : (i j : ℕ) (p : Position) → is_eq (pos_cmp (i, j) p) ≡ (nat_eq p.0 i && nat_eq j p.1)
is_eq-pos_cmp i j p =
    is_eq-then (nat_cmp i p.0) (nat_cmp j p.1)
    ∙ (ap (λ b. b && is_eq (nat_cmp j p.1)) (is_eq-nat_cmp i p.0) ∙ ap (λ b. nat_eq p.0 i && b) (is_eq-nat_cmp j p.1 ∙ nat_eq-sym p.1 j))

pub both_true : (a b : Bool) → (a && b) ≡ true → (a ≡ true) × (b ≡ true)
both_true true b h = (refl, h)
both_true false b h = absurd (cc)
