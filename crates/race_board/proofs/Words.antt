-- What the two words of a closed board say.
use Rattle.std.proofs.Common.{◌≡◌, ℕ, List, [], ◌∷◌, sym, ap, ◌∙◌}
use mathlib.Core.Option.{some, some-injective}
use lib.ListN.{get_elem?}

pub first_word : (words : List ℕ) (count spent x : ℕ) → words ≡ count ∷ spent ∷ [] → get_elem? words 0 ≡ some x → count ≡ x
first_word words count spent x is at = some-injective count x (ap (λ (l : List ℕ). get_elem? l 0) (sym is) ∙ at)

pub second_word : (words : List ℕ) (count spent x : ℕ) → words ≡ count ∷ spent ∷ [] → get_elem? words 1 ≡ some x → spent ≡ x
second_word words count spent x is at = some-injective spent x (ap (λ (l : List ℕ). get_elem? l 1) (sym is) ∙ at)
