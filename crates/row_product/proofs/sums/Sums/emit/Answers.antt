use Rattle.std.proofs.Common.{ℕ, subst, sym, arith}
use Rattle.std.proofs.lemmas.List.Sorted.{IsNonDecreasingBy-from_sort, Contains-permutation, length_permutation}
use Rattle.std.specs.List.{Contains}
use Rattle.std.specs.List.Sorted.{IsNonDecreasing}
use Rattle.row_product.proofs.sums.Sums.emit.Goals as goal

pub emit_listed-requires-clause-listed : goal.emit_listed-requires-clause-listed
emit_listed-requires-clause-listed c =
    let t = c.if-len-self.true in
    let n = c.len.ensures in
    record {
      order = subst IsNonDecreasing (sym c.deref.ensures.value)
          (IsNonDecreasingBy-from_sort (λ (x : ℕ). x) c.sort_unstable.new.self.items c.sort_unstable.ensures.sorted);
      covers = λ j v e. subst (λ us. Contains us j) (sym c.deref.ensures.value)
          (Contains-permutation c.self.inside.touched.items c.sort_unstable.new.self.items j c.sort_unstable.ensures.permutation
          (c.self.invariant.1 (omega (arith, t, n)) j v e));
    }

pub invariant_of-self : goal.invariant_of-self
invariant_of-self c =
    let k = c.sort_unstable.ensures.capacity in
    let m = c.self.invariant.0 in
    let p = length_permutation c.self.inside.touched.items c.sort_unstable.new.self.items c.sort_unstable.ensures.permutation in (
      omega (arith, k, m),
      λ l j v e.
          Contains-permutation c.self.inside.touched.items c.sort_unstable.new.self.items j c.sort_unstable.ensures.permutation
          (c.self.invariant.1 (omega (arith, l, p)) j v e),
    )
