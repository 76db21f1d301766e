-- Ends of rows that are moved, some at a time.
use Rattle.std.proofs.Common.{◌≡◌, ◌≤◌, ◌<◌, ◌+◌, ◌-◌, ◌%◌, ◌^◌, ℕ, List, [], ◌∷◌, ◌++◌, map, take, drop, refl, sym, ap, ◌∙◌, arith, append_assoc}
use Rattle.std.specs.List.{AllByRecursion}
use Rattle.std.proofs.lemmas.List.{map-append, take-append-drop}
use Rattle.csr_store.specs.inner.Moved.{moved}

-- a block more
pub block_joined : (f : ℕ → ℕ) (n : ℕ) (items rest all now given block others : List ℕ) → items ++ map f rest ≡ all
    → now ≡ items ++ given → given ≡ map f block → block ≡ take n rest → others ≡ drop n rest → now ++ map f others ≡ all
block_joined f n items rest all now given block others h a g b o =
    let p : rest ≡ block ++ others = sym (ap (λ r. r ++ others) b ∙ (ap (λ r. take n rest ++ r) o ∙ take-append-drop n rest)) in
    ap (λ r. r ++ map f others) (a ∙ ap (λ r. items ++ r) g)
    ∙ (append_assoc items (map f block) (map f others)
    ∙ (ap (λ r. items ++ r) (sym (map-append f block others)) ∙ (ap (λ r. items ++ map f r) (sym p) ∙ h)))

-- where nothing comes back to 0, ends are counted on
pub moved_on : (base : ℕ) (ends : List ℕ) → AllByRecursion (λ e. base + e < 2 ^ 64) ends → map (moved base) ends ≡ map (λ e. base + e) ends
moved_on base [] h = refl
moved_on base (e ∷ ends) h =
    let m : moved base e ≡ base + e = let l = h.0 in omega arith in
    rw (m, moved_on base ends h.1) refl

-- an end moved back
pub moved_back : (distance base end : ℕ) → (distance + base) % 2 ^ 64 ≡ 0 → base ≤ end → end < 2 ^ 64 → moved distance end ≡ end - base
moved_back distance base end d b e = omega arith
