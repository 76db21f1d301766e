-- Rising positions with a table of where their parts start, and marks.
use Rattle.std.proofs.Common.{◌≡◌, ◌≤◌, ◌<◌, ◌++◌, ℕ, List, Option, None, Some, length, take, drop, get_or, set, sym, ap, ◌∙◌, subst, arith}
use Rattle.std.specs.Prelude.{slice_index}
use Rattle.std.proofs.Math.Seq.{take-set-lt}
use Rattle.std.proofs.lemmas.List.{drop-set-lt, get_or-take, length-set, length-take-le, length-append, take-append-le, take-take, take_all}
use Rattle.std.specs.Ordering.{nat_cmp}
use Rattle.std.specs.FinMap.{is_sorted}
use Rattle.csr_store.specs.Grid.{Cell, Position}
use Rattle.csr_store.specs.Repeated.{is_met, met_at}
use Rattle.csr_store.specs.Columns.{columns_of}
use Rattle.csr_store.specs.inner.Parts.{ArePartStarts, IsIndexed}
use Rattle.csr_store.specs.inner.Repeated.{found_in, number_at, place_of}
use Rattle.csr_store.proofs.Marking.{marked_sorted, none_there, some_marked, some_there}
use Rattle.csr_store.proofs.Parting.{starts_same}

module _ (count bits : ℕ) (cells : List Cell) (h : IsIndexed count bits cells) where
  abbrev positions : List Cell
  positions = take count cells

  long : length positions ≡ count
  long = length-take-le count cells h.within

  same_number : (k : ℕ) → k < count → number_at positions k ≡ number_at cells k
  same_number k l = ap (λ (c : Cell). c.0) (get_or-take count cells k (0, 0) l)

  -- no position is this one
  pub absent : (front : List Cell) → front ≡ positions → (n at : ℕ) → ((k : ℕ) → k < at → slice_index (columns_of front) k < n)
      → ((k : ℕ) → at ≤ k → k < length front → n ≤ slice_index (columns_of front) k)
      → at ≤ length front → (at < count → number_at cells at ≡ n → ⊥) → found_in positions (place_of n) ≡ None
  absent front e n at low high within d =
      subst (λ (xs : List Cell). found_in xs (place_of n) ≡ None) e
      (none_there front n at (ap (is_sorted nat_cmp) e ∙ h.sorted) low high within (λ l q.
      let m = long in
      let f : length front ≡ count = ap length e ∙ m in
      let s : at < count = omega (arith, l, f) in
      d s (sym (same_number at s) ∙ ap (λ (xs : List Cell). number_at xs at) (sym e) ∙ q)))

  -- the position at a place is
  module _ (n at : ℕ) (l : at < count) (here : number_at cells at ≡ n) where
    inside : at < length positions
    inside = let m = long in omega (arith, l, m)

    here_too : number_at positions at ≡ n
    here_too = same_number at l ∙ here

    marked : take count (set cells at (n, 1)) ≡ set positions at (n, 1)
    marked = take-set-lt count cells at (n, 1) l

    pub indexed_marked : IsIndexed count bits (set cells at (n, 1))
    indexed_marked =
        record {
          within = let m = length-set cells at (n, 1) in let w = h.within in omega (arith, m, w);
          fits = h.fits;
          sorted = ap (is_sorted nat_cmp) marked ∙ marked_sorted positions n at here_too h.sorted;
          starts = subst (λ (xs : List Cell). ArePartStarts (take count (set cells at (n, 1))) bits xs) (sym (drop-set-lt count cells at (n, 1) l))
              (subst (λ (xs : List Cell). ArePartStarts xs bits (drop count cells)) (sym marked) (starts_same positions (drop count cells) bits at n 1 here_too h.starts));
        }

    pub met_there : is_met (found_in positions (place_of n)) ≡ is_met (Some (get_or cells at (0, 0)).1)
    met_there =
        ap is_met (some_there positions n at h.sorted inside here_too ∙ ap (λ (c : Cell). let o : Option ℕ = Some c.1 in o) (get_or-take count cells at (0, 0) l))

    pub marked_there : (p : Position) → found_in (take count (set cells at (n, 1))) p ≡ met_at (place_of n) p (found_in positions p)
    marked_there p = ap (λ (xs : List Cell). found_in xs p) marked ∙ some_marked positions n at h.sorted inside here_too p

-- what stands in front of the table
pub in_front : (count len : ℕ) (positions starts rest : List Cell) → length positions ≡ count → count ≤ len → take count (take len ((positions ++ starts) ++ rest)) ≡ positions
in_front count len positions starts rest e l =
    take-take count len ((positions ++ starts) ++ rest) l
    ∙ take-append-le count (positions ++ starts) rest (let a = length-append positions starts in omega (arith, a, e))
    ∙ take-append-le count positions starts (omega (arith, e))
    ∙ take_all count positions (omega (arith, e))
