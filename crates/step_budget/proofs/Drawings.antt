-- Calls of a wallet in a row.
use Rattle.std.proofs.Common.{◌≡◌, ◌∙◌, ℕ, List, [], ◌∷◌, ap, subst}
use Rattle.step_budget.specs.Budget.{Deals}
use Rattle.step_purse.specs.Histories.{Leads}
use Rattle.step_purse.specs.Passes.{PassState}
use Rattle.step_purse.specs.declared.dealings.Dealing.{Dealing}
use Rattle.step_budget.specs.Drawing.{Draws}

pub stays : (old : PassState) (ds : List Dealing) (new : PassState) → Deals Draws old ds new
    → (new.purse ≡ old.purse) × (new.allowance ≡ old.allowance)
stays old [] new e = (ap (λ (p : PassState). p.purse) e, ap (λ (p : PassState). p.allowance) e)
stays old (d ∷ ds) new (mid, made, rest) =
    let s = stays mid ds new rest in (s.0 ∙ made.purse, s.1 ∙ made.allowance)

pub gains : (old : PassState) (ds : List Dealing) (new : PassState) → Deals Draws old ds new
    → Leads old.allowance old.known ds new.known
gains old [] new e = ap (λ (p : PassState). p.known) e
gains old (d ∷ ds) new (mid, made, rest) = (
  mid.known,
  made.recorded,
  subst (λ (a : ℕ). Leads a mid.known ds new.known) made.allowance (gains mid ds new rest),
)
