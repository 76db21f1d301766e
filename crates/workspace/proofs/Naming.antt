-- What a change of one name does to the values under names.
use Rattle.std.proofs.Common.{◌≡◌, ℕ, true, false, cond, List, Option, None, Some, IsTrue, refl, sym, ap, ◌∙◌, subst, is_some}
use Rattle.std.proofs.lemmas.Slice.Eq.{bytes_eq-Decides}
use Rattle.std.specs.Prelude.{option_and_then}
use Rattle.std.specs.BTreeMap.{get_by_text}
use Rattle.std.specs.Map.{update}
use Rattle.std.specs.Str.{bytes_eq}
use Rattle.workspace.specs.Names.{Declared, value_at}
use Rattle.workspace.specs.inner.Names.{is_declared}

module _ {V : Type 0} (m n : Declared V) (bs : List ℕ) (w : Option V) (at : (cs : List ℕ) → get_by_text n cs ≡ update bytes_eq (get_by_text m) bs (Some w) cs) where
  -- every place is still there
  pub declared_kept : (cs : List ℕ) → IsTrue (is_declared m cs) → IsTrue (is_declared n cs)
  declared_kept cs h =
      subst (λ o. IsTrue (is_some o)) (sym (at cs))
      (elim (bytes_eq bs cs) as (λ b. IsTrue (is_some (cond b (Some w) (get_by_text m cs)))) [ true ↦ refl | false ↦ h ])

  -- what the name then stands for, and the others as before
  pub value_after : (cs : List ℕ) → value_at n cs ≡ update bytes_eq (value_at m) bs w cs
  value_after cs =
      ap (λ o. option_and_then (λ v. v) o) (at cs)
      ∙ elim (bytes_eq bs cs) as (λ b. option_and_then (λ v. v) (cond b (Some w) (get_by_text m cs)) ≡ cond b w (value_at m cs)) [ true ↦ refl | false ↦ refl ]

-- a new place changes no value
pub value_still : {V : Type 0} (m n : Declared V) (bs : List ℕ) → ((cs : List ℕ) → get_by_text n cs ≡ update bytes_eq (get_by_text m) bs (Some None) cs)
    → ((cs : List ℕ) → bytes_eq bs cs ≡ true → get_by_text m cs ≡ None) → (cs : List ℕ) → value_at n cs ≡ value_at m cs
value_still m n bs at none cs =
    value_after m n bs None at cs
    ∙ elim (bytes_eq bs cs) as (λ b. bytes_eq bs cs ≡ b → cond b None (value_at m cs) ≡ value_at m cs) [
      | true ↦ λ e. sym (ap (λ o. option_and_then (λ v. v) o) (none cs e))
      | false ↦ λ e. refl
    ] refl

none_of : {A : Type 0} (o : Option A) → is_some o ≡ false → o ≡ None
none_of None e = refl
none_of (Some x) e = absurd (cc)

-- there is no place under a name, nor under one of the same bytes
pub undeclared : {V : Type 0} (m : Declared V) (bs name : List ℕ) → bs ≡ name → is_declared m name ≡ false → (cs : List ℕ) → bytes_eq bs cs ≡ true → get_by_text m cs ≡ None
undeclared m bs name same h cs e = none_of (get_by_text m cs) (subst (λ t. is_some (get_by_text m t) ≡ false) (sym same ∙ (bytes_eq-Decides bs cs).0 e) h)
