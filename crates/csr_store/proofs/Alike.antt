-- Starts that are the same as those of a matrix, as far as they have grown.
use Rattle.std.proofs.Common.{◌≡◌, ◌+◌, ◌-◌, ℕ, List, [], ◌∷◌, ◌++◌, length, map, take, drop, replicate, get_or, sym, ap, ◌∙◌, arith, length-append}
use Rattle.std.proofs.Math.Seq.{take-add}
use Rattle.std.proofs.lemmas.List.{map-append, ext_get_or, get_or-replicate, length-replicate}
use Rattle.std.proofs.lemmas.List.FromFn.{get_or-map-range_with_len, length-map-range_with_len, take-map-range_with_len}
use Rattle.std.proofs.lemmas.List.Sorted.{IsNonDecreasingBy-from_default}
use Rattle.std.specs.List.Sorted.{IsNonDecreasing}
use Rattle.csr_store.specs.Grid.{Grid, row_start}
use Rattle.csr_store.specs.inner.Starts.{starts_of}
use Rattle.csr_store.proofs.BlankEnds.{map_zeros}
use Rattle.csr_store.proofs.Starting.{start_rises}
use Rattle.csr_store.proofs.ByRow.{row_start-zero}

-- the starts of a matrix don't fall
pub starts_rise : (g : Grid) → IsNonDecreasing (starts_of g)
starts_rise g =
    IsNonDecreasingBy-from_default (λ x. x) (starts_of g) 0 (λ i j l m.
    let n = length-map-range_with_len (row_start g) 0 (g.rows + 1) in
    let a = get_or-map-range_with_len (row_start g) 0 (g.rows + 1) i i 0 (omega (arith, l, m, n)) (omega arith) in
    let b = get_or-map-range_with_len (row_start g) 0 (g.rows + 1) j j 0 (omega (arith, m, n)) (omega arith) in
    omega (arith, a, b, start_rises g i j l))

-- what doesn't fall is all one where the first and the last are
pub all_one : (xs : List ℕ) (v : ℕ) → IsNonDecreasing xs → get_or xs 0 0 ≡ v → get_or xs (length xs - 1) 0 ≡ v → xs ≡ replicate (length xs) v
all_one xs v rise first last =
    ext_get_or 0 xs (replicate (length xs) v) (sym (length-replicate (length xs) v))
    (λ k l.
    let low = rise 0 k 0 (omega arith) l in
    let high = rise k (length xs - 1) 0 (omega (arith, l)) (omega (arith, l)) in
    (let e : get_or xs k 0 ≡ v = omega (arith, first, last, low, high) in e) ∙ sym (get_or-replicate (length xs) k v 0 l))

-- the counted rows in front and then the listed ones
pub begins : (base blank : ℕ) (listed ends starts front others : List ℕ) → replicate blank 0 ++ listed ≡ ends
    → front ≡ take blank starts → others ≡ drop blank starts → front ≡ replicate (length front) base → length front ≡ blank
    → take (length listed) others ≡ map (λ e. base + e) listed → take (length ends) starts ≡ map (λ e. base + e) ends
begins base blank listed ends starts front others view f o all n ahead =
    let size : length ends ≡ blank + length listed = sym (ap length view) ∙ (length-append (replicate blank 0) listed ∙ ap (λ k. k + length listed) (length-replicate blank 0)) in
    let ends_are : map (λ e. base + e) ends ≡ replicate blank base ++ map (λ e. base + e) listed
    = ap (map (λ e. base + e)) (sym view)
    ∙ (map-append (λ e. base + e) (replicate blank 0) listed ∙ ap (λ (xs : List ℕ). xs ++ map (λ e. base + e) listed) (map_zeros base blank)) in
    ap (λ k. take k starts) size
    ∙ (take-add blank (length listed) starts
    ∙ (ap (λ (xs : List ℕ). xs ++ take (length listed) (drop blank starts)) (sym f ∙ (all ∙ ap (λ k. replicate k base) n))
    ∙ (ap (λ (xs : List ℕ). replicate blank base ++ xs) (ap (take (length listed)) (sym o) ∙ ahead)
    ∙ sym ends_are)))

-- as many more are the same
pub more_alike : (count n : ℕ) (starts more ends : List ℕ) → n ≡ length ends → take (length ends) (drop count starts) ≡ more
    → take (count + n) starts ≡ take count starts ++ more
more_alike count n starts more ends e m =
    ap (λ k. take (count + k) starts) e ∙ (take-add count (length ends) starts ∙ ap (λ (xs : List ℕ). take count starts ++ xs) m)

-- the first row starts at 0
pub first_start : (g : Grid) → take 1 (starts_of g) ≡ 0 ∷ []
first_start g = take-map-range_with_len (row_start g) 0 (g.rows + 1) 1 (omega arith) ∙ ap (λ n. n ∷ []) (row_start-zero g)

pub starts_count : (g : Grid) (starts : List ℕ) → starts ≡ starts_of g → length starts ≡ g.rows + 1
starts_count g starts e = ap length e ∙ length-map-range_with_len (row_start g) 0 (g.rows + 1)
