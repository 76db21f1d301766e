-- A table that tells of ways, as what is known goes to targets.
use Rattle.std.proofs.Common.{◌≡◌, ℕ, List, [], ◌∷◌, sym, ◌∙◌, ap, subst, ◌⊎◌, inl, inr}
use Rattle.std.specs.Prelude.{Option, ℤ, pos}
use Rattle.std.proofs.lemmas.Bool.{cases_eq}
use Rattle.bpf_verify.specs.declared.facts.Facts.{Facts}
use Rattle.bpf_verify.specs.Tags.{Types}
use Rattle.bpf_verify.specs.Paths.{IsIn, Tells}
use Rattle.bpf_verify.specs.Table.{known_at}
use Rattle.bpf_verify.specs.inner.Pass.{IsMerged, Adds, AddsAll, TellsSlot}
use Rattle.bpf_verify.proofs.Telling.{all_same, slot_same, merged_slot}

same_place : (m n : ℕ) → pos m ≡ pos n → m ≡ n
same_place m n e = cc

adds_one : (F : ℕ → Types → Type 0) (V : Types → Type 0) (to : ℤ) (k : Types) (old new : List (Option Facts))
    → ((n : ℕ) → TellsSlot (known_at old n) (F n)) → Tells k V → Adds to k old new → (n : ℕ)
    → TellsSlot (known_at new n) (λ w. F n w ⊎ ((pos n ≡ to) × V w))
adds_one F V to k old new h v a n = elim (cases_eq n a.destination) [
  | inl e ↦
      let m : IsMerged (known_at old n) k a.there = subst (λ j. IsMerged (known_at old j) k a.there) (sym e) a.merged in
      subst (λ o. TellsSlot o (λ w. F n w ⊎ ((pos n ≡ to) × V w))) (sym (ap (known_at new) e ∙ a.now))
      (all_same (λ w. F n w ⊎ V w) (λ w. F n w ⊎ ((pos n ≡ to) × V w))
      (λ w x. elim x [ inl f ↦ inl f | inr y ↦ inr (ap pos e ∙ sym a.is_place, y) ])
      (λ w x. elim x [ inl f ↦ inl f | inr y ↦ inr y.1 ])
      a.there (merged_slot (F n) V (known_at old n) k a.there (h n) v m))
  | inr d ↦
      subst (λ o. TellsSlot o (λ w. F n w ⊎ ((pos n ≡ to) × V w))) (sym (a.others n d))
      (slot_same (F n) (λ w. F n w ⊎ ((pos n ≡ to) × V w)) (λ w f. inl f)
      (λ w x. elim x [ inl f ↦ f | inr y ↦ absurd (d (same_place n a.destination (y.0 ∙ a.is_place))) ])
      (known_at old n) (h n))
]

pub adds_all : (tos : List ℤ) (F : ℕ → Types → Type 0) (V : Types → Type 0) (k : Types) (old new : List (Option Facts))
    → ((n : ℕ) → TellsSlot (known_at old n) (F n)) → Tells k V → AddsAll tos k old new → (n : ℕ)
    → TellsSlot (known_at new n) (λ w. F n w ⊎ (IsIn (pos n) tos × V w))
adds_all [] F V k old new h v a n =
    subst (λ t. TellsSlot (known_at t n) (λ w. F n w ⊎ (⊥ × V w))) (sym a)
    (slot_same (F n) (λ w. F n w ⊎ (⊥ × V w)) (λ w f. inl f) (λ w x. elim x [ inl f ↦ f | inr y ↦ absurd y.0 ]) (known_at old n) (h n))
adds_all (to ∷ tos) F V k old new h v a n =
    slot_same (λ w. (F n w ⊎ ((pos n ≡ to) × V w)) ⊎ (IsIn (pos n) tos × V w)) (λ w. F n w ⊎ (((pos n ≡ to) ⊎ IsIn (pos n) tos) × V w))
    (λ w x. elim x [ inl y ↦ elim y [ inl f ↦ inl f | inr z ↦ inr (inl z.0, z.1) ] | inr z ↦ inr (inr z.0, z.1) ])
    (λ w x. elim x [ inl f ↦ inl (inl f) | inr z ↦ elim z.0 [ inl e ↦ inl (inr (e, z.1)) | inr p ↦ inr (p, z.1) ] ])
    (known_at new n)
    (adds_all tos (λ m w. F m w ⊎ ((pos m ≡ to) × V w)) V k a.0 new (adds_one F V to k old a.0 h v a.1) v a.2 n)
