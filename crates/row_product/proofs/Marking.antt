-- The columns that a mask's row stores, allowed one after another, and forbidden again.
use Rattle.std.proofs.Common.{
  ◌≡◌,
  ℕ,
  ◌<◌,
  Bool,
  true,
  false,
  cond,
  nat_eq,
  List,
  [],
  ◌∷◌,
  Option,
  None,
  Some,
  is_some,
  if◌then◌else◌,
  length,
  set,
  refl,
  sym,
  ap,
  ◌∙◌,
  subst,
  inl,
  inr,
  get_or-set_other,
  get_or-set_same,
  eq-eqb,
}
use Rattle.std.proofs.lemmas.Bool.{ne_eqb}
use Rattle.std.proofs.lemmas.Bool.Decides.{eqb_tells}
use Rattle.std.specs.FinMap.{contains_key}
use Rattle.csr_store.specs.Grid.{Grid, Cell, row_of}
use Rattle.csr_store.proofs.Along.{at}
use Rattle.csr_store.proofs.ByRow.{lookup-row_of}
use Rattle.row_product.specs.inner.Sums.{flag}

-- what is so far, or stands in the cells that are left, is the whole
pub record Allowing (row : List Cell) (rest : List Cell) (allowed : List Bool) : Type 0 where
  pub flags : (j : ℕ) → (if is_some (at rest j) then true else flag allowed j) ≡ is_some (at row j)

one : (c : Cell) (cs : List Cell) (j : ℕ) (b f : Bool) → nat_eq j c.0 ≡ b → (b ≡ true → f ≡ true)
    → (if is_some (at cs j) then true else f) ≡ (if is_some (cond b (Some c.1) (at cs j)) then true else f)
one c cs j true f e h = through (at cs j) f (h refl)
  where
    through : (o : Option ℕ) (f : Bool) → f ≡ true → (if is_some o then true else f) ≡ true
    through None f h = h
    through (Some v) f h = refl
one c cs j false f e h = refl

pub allowing_step : (row rest : List Cell) (allowed : List Bool) (c : Cell) (cs : List Cell) → Allowing row rest allowed
    → rest ≡ c ∷ cs → c.0 < length allowed
    → Allowing row cs (set allowed c.0 true)
allowing_step row rest allowed c cs m e l = record {
  flags = λ j. elim (eqb_tells j c.0) [
    | inl d ↦ subst (λ k. (if is_some (at cs k) then true else flag (set allowed c.0 true) k) ≡ is_some (at row k)) (sym d.1)
        (ap (λ f. if is_some (at cs c.0) then true else f) (get_or-set_same allowed c.0 true false l) ∙ (always (at cs c.0)
        ∙ (sym (ap (λ b. if is_some (cond b (Some c.1) (at cs c.0)) then true else flag allowed c.0) (eq-eqb c.0 c.0 refl))
        ∙ (ap (λ us. if is_some (at us c.0) then true else flag allowed c.0) (sym e) ∙ m.flags c.0))))
    | inr d ↦ ap (λ f. if is_some (at cs j) then true else f) (get_or-set_other allowed c.0 j true false d.1)
        ∙ (sym (ap (λ b. if is_some (cond b (Some c.1) (at cs j)) then true else flag allowed j) (ne_eqb j c.0 d.1))
        ∙ (ap (λ us. if is_some (at us j) then true else flag allowed j) (sym e) ∙ m.flags j))
  ];
}
  where
    always : (o : Option ℕ) → (if is_some o then true else true) ≡ true
    always None = refl
    always (Some v) = refl

pub allowing_start : (row : List Cell) (allowed : List Bool) → ((j : ℕ) → flag allowed j ≡ false) → Allowing row row allowed
allowing_start row allowed h = record { flags = λ j. so (at row j) (flag allowed j) (h j) }
  where
    so : (o : Option ℕ) (f : Bool) → f ≡ false → (if is_some o then true else f) ≡ is_some o
    so None f h = h
    so (Some v) f h = refl

pub allowing_end : (g : Grid) (i : ℕ) (row rest : List Cell) (allowed : List Bool) → Allowing row rest allowed → rest ≡ []
    → row ≡ row_of g i → (j : ℕ) → flag allowed j ≡ contains_key g.cells (i, j)
allowing_end g i row rest allowed m e is j =
    sym (ap (λ us. if is_some (at us j) then true else flag allowed j) e) ∙ (m.flags j ∙ (ap (λ us. is_some (at us j)) is
    ∙ ap is_some (lookup-row_of g i j)))

-- what isn't forbidden yet stands in the cells that are left
pub record Forbidding (rest : List Cell) (allowed : List Bool) : Type 0 where
  pub left : (j : ℕ) → at rest j ≡ None → flag allowed j ≡ false

pub forbidding_start : (g : Grid) (i : ℕ) (row : List Cell) (allowed : List Bool) → row ≡ row_of g i → ((j : ℕ)
    → flag allowed j ≡ contains_key g.cells (i, j)) → Forbidding row allowed
forbidding_start g i row allowed is h = record {
  left = λ j n. h j ∙ ap is_some (sym (lookup-row_of g i j)
      ∙ (ap (λ us. at us j) (sym is) ∙ n));
}

pub forbidding_step : (rest : List Cell) (allowed : List Bool) (c : Cell) (cs : List Cell) → Forbidding rest allowed
    → rest ≡ c ∷ cs → c.0 < length allowed → Forbidding cs (set allowed c.0 false)
forbidding_step rest allowed c cs m e l = record {
  left = λ j n. elim (eqb_tells j c.0) [
    | inl d ↦ ap (flag (set allowed c.0 false)) d.1 ∙ get_or-set_same allowed c.0 false false l
    | inr d ↦ get_or-set_other allowed c.0 j false false d.1
        ∙ m.left j (ap (λ us. at us j) e ∙ (ap (λ b. cond b (Some c.1) (at cs j)) (ne_eqb j c.0 d.1) ∙ n))
  ];
}

pub forbidding_end : (rest : List Cell) (allowed : List Bool) → Forbidding rest allowed → rest ≡ [] → (j : ℕ)
    → flag allowed j ≡ false
forbidding_end rest allowed m e j = m.left j (ap (λ us. at us j) e)
