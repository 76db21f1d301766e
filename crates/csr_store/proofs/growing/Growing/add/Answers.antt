use Rattle.std.proofs.Common.{◌≤◌, ◌+◌, ◌++◌, List, ℕ, map, take, drop, length-drop, length, sym, ap, ◌∙◌, subst, arith}
use Rattle.std.specs.List.Sorted.{IsNonDecreasing}
use Rattle.std.proofs.lemmas.List.Sorted.{IsNonDecreasingBy-drop}
use Rattle.csr_store.specs.inner.Starts.{starts_of}
use Rattle.csr_store.specs.inner.Growing.{first_of, AreFirst}
use Rattle.csr_store.proofs.Alike.{starts_rise, starts_count, more_alike}
use Rattle.csr_store.proofs.growing.Growing.add.Goals as goal

pub split_at-requires : goal.split_at-requires
split_at-requires c =
    let n = starts_count c.self.inside.like.now c.starts.result.now c.starts.ensures in
    let few : c.in-Alike.count ≤ c.self.inside.like.now.rows + 1 = subst (AreFirst c.self.inside.like.now) c.in-Alike.is c.self.invariant in
    omega (arith, n, few)

pub begin-requires-clause-rise : goal.begin-requires-clause-rise
begin-requires-clause-rise c =
    subst (λ (xs : List ℕ). IsNonDecreasing xs) (sym (c.split_at.ensures.back ∙ ap (drop c.in-Alike.count) c.starts.ensures))
    (IsNonDecreasingBy-drop (λ x. x) c.in-Alike.count (starts_of c.self.inside.like.now) (starts_rise c.self.inside.like.now))

pub invariant_of-self-then-begin : goal.invariant_of-self-then-begin
invariant_of-self-then-begin c =
    let n = starts_count c.self.inside.like.now c.starts.result.now c.starts.ensures in
    let few : c.in-Alike.count ≤ c.self.inside.like.now.rows + 1 = subst (AreFirst c.self.inside.like.now) c.in-Alike.is c.self.invariant in
    let m = c.begin.ensures.many c.if-begin.true in
    let b = ap length c.split_at.ensures.back in
    let d = length-drop c.in-Alike.count c.starts.result.now in
    let e = c.len.ensures in
    omega (arith, n, few, m, b, d, e)

pub returns-then-begin : goal.returns-then-begin
returns-then-begin c =
    let g = c.self.inside.like.now in
    more_alike c.in-Alike.count c.len.result (starts_of g) (map (λ e. c.args.base + e) c.args.ends.now) c.args.ends.now c.len.ensures
    (ap (λ (xs : List ℕ). take (length c.args.ends.now) xs) (sym (c.split_at.ensures.back ∙ ap (drop c.in-Alike.count) c.starts.ensures)) ∙ c.begin.ensures.alike c.if-begin.true)
    ∙ ap (λ (xs : List ℕ). xs ++ map (λ e. c.args.base + e) c.args.ends.now) (ap (first_of g) (sym c.in-Alike.is) ∙ c.self.view_is)
