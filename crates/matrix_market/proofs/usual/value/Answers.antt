use Rattle.std.proofs.Common.{◌≡◌, ◌<◌, ◌≤◌, ◌-◌, ◌+◌, ◌^◌, ◌%◌, ℕ, false, nat_eq, arith, subst, ap, ◌∙◌}
use Rattle.std.specs.Int.{from_bool}
use Rattle.std.specs.List.{slice_range}
use Rattle.std.proofs.lemmas.Bool.Decides.{nat_tests}
use Rattle.matrix_market.specs.inner.Usual.{Scanned}
use Rattle.matrix_market.proofs.Fields.{plain_value, minus_value}
use Rattle.matrix_market.proofs.usual.value.Goals as goal

negation : (m r : ℕ) → r < 2 ^ 64 → m ≤ 2 ^ 63 → (r + m) % 2 ^ 64 ≡ 0 → r ≡ (2 ^ 64 - m) % 2 ^ 64
negation m r a b e = omega arith

signed : (b n : ℕ) → n ≡ from_bool (nat_eq b 45) → b ≡ 45 → n ≡ 1
signed b n e h = e ∙ ap (λ k. from_bool (nat_eq k 45)) h

plain : (b n : ℕ) → n ≡ from_bool (nat_eq b 45) → (b ≡ 45 → ⊥) → n ≡ 0
plain b n e h =
    let other : nat_eq b 45 ≡ false = grind (arith, nat_tests) in
    e ∙ ap from_bool other

pub returns-then-negative : goal.returns-then-negative
returns-then-negative c =
    let stays = c.digits-magnitude.ensures.stays in
    let stops = c.digits-magnitude.ensures.stops in
    let one = signed _ _ c.from.ensures c.if-negative.true in
    let scanned = subst (λ (k : ℕ). Scanned (slice_range c.args.text.now (c.args.from + k) c.digits-magnitude.result.1) c.digits-magnitude.result.0) one c.digits-magnitude.ensures.scanned in
    let more = signed _ _ c.from-2.ensures c.if-negative.true in
    let small : c.digits-magnitude.result.0 ≤ 2 ^ 63 = let m = c.if-magnitude-from.false in omega arith in
    let word = negation c.digits-magnitude.result.0 c.wrapping_neg.result c.wrapping_neg.type_inv small c.wrapping_neg.ensures in
    (stops, minus_value c.args.text.now c.args.from c.digits-magnitude.result.1 c.digits-magnitude.result.0 c.wrapping_neg.result (omega arith) (omega arith) (omega arith) c.if-negative.true scanned small word)

pub returns-else-negative : goal.returns-else-negative
returns-else-negative c =
    let stays = c.digits-magnitude.ensures.stays in
    let stops = c.digits-magnitude.ensures.stops in
    let none = plain _ _ c.from.ensures c.if-negative.false in
    let start : c.args.from + c.from.result ≡ c.args.from = omega arith in
    let more = plain _ _ c.from-2.ensures c.if-negative.false in
    let small : c.digits-magnitude.result.0 < 2 ^ 63 = let m = c.if-magnitude-from.false in omega arith in
    let scanned = subst (λ (k : ℕ). Scanned (slice_range c.args.text.now k c.digits-magnitude.result.1) c.digits-magnitude.result.0) start c.digits-magnitude.ensures.scanned in
    (stops, plain_value c.args.text.now c.args.from c.digits-magnitude.result.1 c.digits-magnitude.result.0 (omega arith) (omega arith) (omega arith) scanned small)
