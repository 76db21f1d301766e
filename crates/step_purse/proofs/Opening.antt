-- The first step of a cell opens the purse, with whatever allowance it is to have.
use Rattle.std.proofs.Common.{◌≡◌, inl, inr, ℕ, zero, suc, ◌+◌, ◌^◌, ◌≤◌, List, [], ◌∷◌, ◌++◌, set, true, false, refl, sym, ap, subst, ⊎_elim, arith}
use mathlib.Core.Option.{some, some-ne-none, some-injective}
use lib.ListN.{get_elem?}
use Rattle.std.proofs.lemmas.Bool.Decides.{nat_tests}
use Rattle.crossbeam_utils.specs.Register.{Forks}
use Rattle.step_purse.specs.declared.views.View.{View}
use Rattle.step_purse.specs.Shares.{whole}
use Rattle.step_purse.specs.Rule.{blank, idle}
use Rattle.step_purse.specs.inner.Rule.{withheld, left_behind, Knows, Fits, IsOpened, IsUnopened, Kept}
use Rattle.step_purse.proofs.Lists.{begins_none}
use Rattle.step_purse.proofs.Steps.{idle_knows}

-- the one pass of a purse that was just opened
fresh : (allowance : ℕ) → allowance ≤ 2 ^ 62 → IsOpened allowance (2 ^ 62 ∷ 0 ∷ 0 ∷ []) (left_behind ∷ idle allowance [] whole ∷ [])
fresh allowance small =
    let held : 2 ^ 62 ≡ allowance + withheld allowance = omega arith in
    record {
      history = [];
      small = small;
      legal = tt;
      now = ap (λ (n : ℕ). n ∷ 0 ∷ 0 ∷ []) held;
      once = λ n. grind (arith, nat_tests);
      owed = refl;
      shares = record { halvings = 0; divides = undivided; one = refl };
      knows = both;
    }
  where
    undivided : (id : ℕ) (v : View) → get_elem? (left_behind ∷ idle allowance [] whole ∷ []) id ≡ some v → v.known.share.halvings ≤ 0
    undivided zero v e = subst (λ (u : View). u.known.share.halvings ≤ 0) (some-injective _ _ e) (omega arith)
    undivided (suc zero) v e = subst (λ (u : View). u.known.share.halvings ≤ 0) (some-injective _ _ e) (omega arith)
    undivided (suc (suc id)) v e = absurd (some-ne-none v (sym e))

    both : (id : ℕ) (v : View) → get_elem? (left_behind ∷ idle allowance [] whole ∷ []) id ≡ some v → Fits allowance [] v
    both zero v e = inl (sym (some-injective _ _ e))
    both (suc zero) v e = inr (subst (Knows allowance []) (some-injective _ _ e) (idle_knows allowance [] [] whole (omega arith) (begins_none [])))
    both (suc (suc id)) v e = absurd (some-ne-none v (sym e))

pub opens : (id : ℕ) (allowance : ℕ) → allowance ≤ 2 ^ 62 → Forks Kept id blank left_behind (idle allowance [] whole)
opens id allowance small x views k at = ⊎_elim first later k
  where
    only : (i : ℕ) → get_elem? (blank ∷ []) i ≡ some blank → Kept (2 ^ 62 ∷ 0 ∷ 0 ∷ []) (set (blank ∷ []) i left_behind ++ idle allowance [] whole ∷ [])
    only zero e = inr (allowance, fresh allowance small)
    only (suc i) e = absurd (some-ne-none blank (sym e))

    first : IsUnopened x views → Kept x (set views id left_behind ++ idle allowance [] whole ∷ [])
    first u =
        let here : get_elem? (blank ∷ []) id ≡ some blank = subst (λ (l : List View). get_elem? l id ≡ some blank) u.1 at in
        subst (λ (y : List ℕ). Kept y (set views id left_behind ++ idle allowance [] whole ∷ [])) (sym u.0)
        (subst (λ (l : List View). Kept (2 ^ 62 ∷ 0 ∷ 0 ∷ []) (set l id left_behind ++ idle allowance [] whole ∷ [])) (sym u.1) (only id here))

    later : ((a : ℕ) × IsOpened a x views) → Kept x (set views id left_behind ++ idle allowance [] whole ∷ [])
    later l =
        ⊎_elim
        (λ (e : blank ≡ left_behind). let o = ap (λ (v : View). v.opened) e in absurd (cc))
        (λ (n : Knows l.0 l.1.history blank). let e : false ≡ true = n.opened in absurd (cc))
        (l.1.knows id blank at)
