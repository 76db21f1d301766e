-- Terms added to the sums of their columns, one after another: what is left of them completes the whole.
use Rattle.std.proofs.Common.{◌≡◌, ℕ, ◌+◌, ◌<◌, ◌≤◌, List, [], ◌∷◌, Option, Some, length, drop, get_or, set, refl, sym, ap, ◌∙◌, subst, arith}
use Rattle.std.proofs.Math.ListN.{length-set}
use Rattle.std.proofs.lemmas.List.{drop_more, drop_all}
use Rattle.bpf_verify.specs.Accepted.{Accepted}
use Rattle.bpf_run.specs.Calls.{steps_of}
use Rattle.bpf_run.proofs.Charging.{steps-append}
use Rattle.csr_store.specs.Ascending.{Ascends}
use Rattle.csr_store.specs.Grid.{Cell}
use Rattle.row_product.specs.inner.Sums.{slot, added, added_calls}
use Rattle.row_product.specs.inner.Adding.{put_terms, put_calls}
use Rattle.row_product.proofs.Parts.{ascends_at}

-- so many terms are added
pub record IsSumming (add : Accepted) (first : List (Option ℕ)) (cs : List Cell) (ts : List ℕ) (n : ℕ) (sums : List (Option ℕ)) (s : ℕ)
    : Type 0 where
  pub long : length sums ≡ length first
  pub sums_are : put_terms add sums (drop n cs) (drop n ts) ≡ put_terms add first cs ts
  pub steps_are : s + steps_of (put_calls add sums (drop n cs) (drop n ts)) ≡ steps_of (put_calls add first cs ts)

pub summing_starts : (add : Accepted) (first : List (Option ℕ)) (cs : List Cell) (ts : List ℕ) → IsSumming add first cs ts 0 first 0
summing_starts add first cs ts = record { long = refl; sums_are = refl; steps_are = omega arith }

module _ (add : Accepted) (first : List (Option ℕ)) (cs : List Cell) (ts : List ℕ) (n : ℕ) (sums : List (Option ℕ)) (s : ℕ)
    (m : IsSumming add first cs ts n sums s) where
  pub summing_column : (d : Cell) → Ascends 0 (length first) cs → n < length cs → (get_or cs n d).0 < length sums
  summing_column d a l = let u = ascends_at 0 (length first) cs n d a l in let e = m.long in omega (arith, u, e)

  module _ (d : Cell) (l : n < length cs) (paired : length ts ≡ length cs) (cost : ℕ)
      (cost_is : cost ≡ steps_of (added_calls add (slot sums (get_or cs n d).0) (get_or ts n 0))) where
    column : ℕ
    column = (get_or cs n d).0

    term : ℕ
    term = get_or ts n 0

    then : List (Option ℕ)
    then = set sums column (Some (added add (slot sums column) term))

    more : drop n cs ≡ get_or cs n d ∷ drop (n + 1) cs
    more = drop_more cs n d l

    later : drop n ts ≡ term ∷ drop (n + 1) ts
    unfolding term
    later = drop_more ts n 0 (omega (arith, l, paired))

    steps_of_rest : s + cost + steps_of (put_calls add then (drop (n + 1) cs) (drop (n + 1) ts)) ≡ steps_of (put_calls add first cs ts)
    unfolding column term then
    steps_of_rest =
        let was = m.steps_are in
        let one = ap (λ us. steps_of (put_calls add sums us (drop n ts))) more
        ∙ ap (λ us. steps_of (put_calls add sums (get_or cs n d ∷ drop (n + 1) cs) us)) later in
        let two = steps-append (added_calls add (slot sums column) term) (put_calls add then (drop (n + 1) cs) (drop (n + 1) ts)) in
        omega (arith, was, one, two, cost_is)

    pub summing_fits : s + cost ≤ steps_of (put_calls add first cs ts)
    summing_fits = let r = steps_of_rest in omega (arith, r)

    pub summing_more : (next : List (Option ℕ)) → next ≡ set sums (get_or cs n d).0 (Some (added add (slot sums (get_or cs n d).0) (get_or ts n 0)))
        → IsSumming add first cs ts (n + 1) next (s + cost)
    unfolding column term then
    summing_more next e = subst (λ us. IsSumming add first cs ts (n + 1) us (s + cost)) (sym e) (record {
      long = length-set sums column (Some (added add (slot sums column) term)) ∙ m.long;
      sums_are = sym (ap (λ us. put_terms add sums us (drop n ts)) more
          ∙ ap (λ us. put_terms add sums (get_or cs n d ∷ drop (n + 1) cs) us) later) ∙ m.sums_are;
      steps_are = steps_of_rest;
    })

  pub summing_ends : length cs ≤ n → (sums ≡ put_terms add first cs ts) × (s ≡ steps_of (put_calls add first cs ts))
  summing_ends h =
      let none : drop n cs ≡ [] = drop_all n cs h in
      let k = m.steps_are in
      let z = ap (λ us. steps_of (put_calls add sums us (drop n ts))) none in
      (sym (ap (λ us. put_terms add sums us (drop n ts)) none) ∙ m.sums_are, omega (arith, k, z))
