-- Tables of names, read in both directions.
use Rattle.std.proofs.Common.{◌≡◌, List, [], ◌∷◌, ℕ, Option, Some, None, true, false, cond, refl, sym, ap, ◌∙◌}
use Rattle.std.specs.Option.{option_map}
use Rattle.std.specs.List.{find}
use Rattle.std.specs.Str.{bytes_eq}
use Rattle.std.proofs.lemmas.Option.{none-some, same_Some}
use Rattle.std.proofs.lemmas.Slice.Eq.{bytes_eq-Decides}
use Rattle.bpf_text.specs.Tables.{named}

pub option_map-same : {X : Type 0} (o : Option X) → option_map (λ x. x) o ≡ o
option_map-same None = refl
option_map-same (Some x) = refl

pub option_map-some : {X Y : Type 0} (g : X → Y) (o : Option X) (y : Y) → option_map g o ≡ Some y → (x : X) × (o ≡ Some x) × (g x ≡ y)
option_map-some g None y e = absurd (none-some y e)
option_map-some g (Some x) y e = (x, refl, same_Some (g x) y e)

-- what is found has the name
pub named_has_name : {X : Type 0} (name : X → List ℕ) (all : List X) (word : List ℕ) (x : X) → named name all word ≡ Some x → name x ≡ word
named_has_name name [] word x e = absurd (none-some x e)
named_has_name name (y ∷ ys) word x e =
    elim (bytes_eq (name y) word) as (λ t. bytes_eq (name y) word ≡ t → cond t (Some y) (find (λ z. bytes_eq (name z) word) ys) ≡ Some x → name x ≡ word) [
      | true ↦ λ t f. ap name (sym (same_Some y x f)) ∙ (bytes_eq-Decides (name y) word).0 t
      | false ↦ λ t f. named_has_name name ys word x f
    ] refl e
