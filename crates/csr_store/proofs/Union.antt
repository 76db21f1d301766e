-- Entries that came in ascending order, as cells, and others, as one list.
use Rattle.std.proofs.Common.{◌≡◌, ◌<◌, ◌+◌, ◌^◌, suc, List, [], ◌∷◌, ◌++◌, map, length, get_or, sym, ap, ◌∙◌, subst, arith, append_assoc, append-nil, length-append}
use Rattle.std.proofs.lemmas.List.{map-append, length-map, get_or-append-add}
use Rattle.std.proofs.Math.Seq.{get_or-append_seam}
use Rattle.std.specs.List.{All, AllByRecursion}
use Rattle.std.specs.List.Sorted.{IsPermutation}
use Rattle.std.proofs.lemmas.List.Sorted.{IsPermutation-trans, IsPermutation-append_left, All-permutation, length_permutation}
use Rattle.csr_store.specs.Grid.{Cell, Entry}
use Rattle.csr_store.specs.Listed.{Listed}
use Rattle.csr_store.specs.Packed.{unpacked}
use Rattle.csr_store.specs.inner.Collected.{IsCollected}
use Rattle.csr_store.specs.inner.Packed.{IsPacked, ArePacked}
use Rattle.csr_store.proofs.Collecting.{pushed, each_inside, few}

-- of the others these are done, and the cells hold them, before the rest of the cells
pub record Merged (all : List Entry) (others left : List Entry) (cells rest : List Cell) : Type 0 where
  pub done : List Entry
  pub split : done ++ left ≡ others
  pub same : IsPermutation (all ++ done) (map unpacked (cells ++ rest))

-- the cells before an entry, and the entry
pub merged_more : (all others left : List Entry) (cells rest before behind : List Cell) (c : Cell) (e : Entry) → Merged all others (e ∷ left) cells rest → rest ≡ before ++ behind → unpacked c ≡ e
    → Merged all others left ((cells ++ before) ++ c ∷ []) behind
merged_more all others left cells rest before behind c e h parts is =
    let front = map unpacked (cells ++ before) in
    let later = map unpacked behind in
    let old : map unpacked (cells ++ rest) ≡ front ++ later =
    ap (λ (cs : List Cell). map unpacked (cells ++ cs)) parts ∙ ap (map unpacked) (sym (append_assoc cells before behind)) ∙ map-append unpacked (cells ++ before) behind in
    let now : map unpacked (((cells ++ before) ++ c ∷ []) ++ behind) ≡ (front ++ e ∷ []) ++ later =
    map-append unpacked ((cells ++ before) ++ c ∷ []) behind ∙ ap (λ (es : List Entry). es ++ later) (map-append unpacked (cells ++ before) (c ∷ []) ∙ ap (λ (x : Entry). front ++ x ∷ []) is) in
    record {
      done = h.done ++ e ∷ [];
      split = append_assoc h.done (e ∷ []) left ∙ h.split;
      same = subst (λ (es : List Entry). IsPermutation es (map unpacked (((cells ++ before) ++ c ∷ []) ++ behind))) (append_assoc all h.done (e ∷ []))
          (subst (λ (es : List Entry). IsPermutation ((all ++ h.done) ++ e ∷ []) es) (sym now)
          (IsPermutation-trans ((all ++ h.done) ++ e ∷ []) ((front ++ later) ++ e ∷ []) ((front ++ e ∷ []) ++ later)
          (IsPermutation-append_left (e ∷ []) (all ++ h.done) (front ++ later) (subst (λ (es : List Entry). IsPermutation (all ++ h.done) es) old h.same)) (pushed front later e)));
    }

-- none of the others is left
pub merged_all : (all others : List Entry) (cells rest : List Cell) → Merged all others [] cells rest → IsPermutation (all ++ others) (map unpacked (cells ++ rest))
merged_all all others cells rest h = subst (λ (es : List Entry). IsPermutation (all ++ es) (map unpacked (cells ++ rest))) (sym (append-nil h.done) ∙ h.split) h.same

module _ (l : Listed) (os : List Entry) (h : IsCollected l os) where
  -- the next of the others is inside the sizes
  pub next_inside : (e : Entry) (left : List Entry) (cells rest : List Cell) → Merged l.entries os (e ∷ left) cells rest → (e.0.0 < l.rows) × (e.0.1 < l.columns)
  next_inside e left cells rest m =
      let k = length l.entries + length m.done in
      let here : get_or (l.entries ++ os) k e ≡ e =
      get_or-append-add l.entries os (length m.done) e ∙ ap (λ (es : List Entry). get_or es (length m.done) e) (sym m.split) ∙ get_or-append_seam m.done e left e in
      let n : length m.done < length os = omega (arith, ap length (sym m.split), length-append m.done (e ∷ left)) in
      let t = each_inside l os h k e (omega (arith, n, length-append l.entries os)) in
      subst (λ (x : Entry). (x.0.0 < l.rows) × (x.0.1 < l.columns)) here (t.0, t.1)

  module _ (cells : List Cell) (p : IsPermutation (l.entries ++ os) (map unpacked cells)) where
    each : (cs : List Cell) → All (λ (e : Entry). (e.0.0 < l.rows) × (e.0.1 < l.columns) × (e.1 < 2 ^ 64)) (map unpacked cs) → AllByRecursion (λ c. IsPacked l.rows l.columns c) cs
    each [] a = tt
    each (c ∷ cs) a =
        let t = a 0 (unpacked c) (omega arith) in
        (record { row = t.0; column = t.1; word = t.2 }, each cs (λ k d n. a (suc k) d (omega arith)))

    -- all of them are as a list stores them
    pub merged_packed : ArePacked l.rows l.columns cells
    merged_packed =
        record {
          rows_small = h.is_grid.rows_small;
          columns_small = h.is_grid.columns_small;
          entries_small = let f = few l os h in let n = length_permutation (l.entries ++ os) (map unpacked cells) p in omega (arith, f, n, length-map cells unpacked, length-append l.entries os);
          packed = each cells (All-permutation (λ (e : Entry). (e.0.0 < l.rows) × (e.0.1 < l.columns) × (e.1 < 2 ^ 64)) (l.entries ++ os) (map unpacked cells) p (λ k d n. each_inside l os h k d n));
        }
