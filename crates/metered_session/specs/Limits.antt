-- What one session may take of a purse that others draw on too, and what its calls of the purse then are (this project's own).
use Rattle.std.specs.Prelude.{ℕ, ◌≡◌, ◌+◌, ◌-◌, ◌<◌, ◌≤◌, ◌⊎◌, min, List, [], ◌∷◌, Option, Some, None, IfSome}
use Rattle.step_budget.specs.Budget.{Deals}
use Rattle.step_budget.specs.Drawing.{Draws}
use Rattle.step_purse.specs.Passes.{PassState}
use Rattle.step_purse.specs.declared.dealings.Dealing.{Dealing}
use Rattle.step_purse.specs.declared.dealings.Dealing.TheVariants.{Reserved, Settled, Observed}
use Rattle.step_purse.specs.declared.dealings.Reply.TheVariants.{NotEnough}
use Rattle.step_purse.specs.declared.dealings.Totals.{Totals}
use Rattle.metered_session.specs.declared.limits.Limits.{Limits}
use Rattle.metered_session.specs.Metering.{spent_after}

-- no bounds
abbrev pub unbounded : Limits
unbounded = record { steps = None; reserve = None }

-- a session's pass, how many steps the session has spent, and its limits
pub record Metered : Type 0 where
  pub pass : PassState
  pub spent : ℕ
  pub limits : Limits

-- what a bound leaves of an amount, where so much is taken already
abbrev pub left_within : Option ℕ → (taken : ℕ) → ℕ → ℕ
left_within None taken amount = amount
left_within (Some most) taken amount = min amount (most - taken)

-- how much of an amount the session may reserve by its limits
abbrev pub allowed : Metered → ℕ → ℕ
allowed m amount =
    left_within m.limits.reserve m.pass.known.owes (left_within m.limits.steps (m.spent + m.pass.known.owes) amount)

-- what the session has spent and reserved is within its limits
abbrev pub IsWithin : Metered → Type 0
IsWithin m =
    IfSome m.limits.steps (λ most. m.spent + m.pass.known.owes ≤ most) × IfSome m.limits.reserve (λ most. m.pass.known.owes ≤ most)

-- The calls of the pass that stand behind a call of the session: the same call alone. But where a reservation is of more than the
-- limits allow, the totals are looked at, and the reply tells how much of what is left they allow.
abbrev pub StandsFor : Metered → List Dealing → Dealing → Type 0
StandsFor m calls (Reserved amount reply) =
    ((amount ≤ allowed m amount) × (calls ≡ Reserved amount reply ∷ []))
    ⊎ ((allowed m amount < amount) × ((totals : Totals) × (calls ≡ Observed totals ∷ [])
    × (reply ≡ NotEnough (allowed m totals.left))))
StandsFor m calls (Settled amount spent) = calls ≡ Settled amount spent ∷ []
StandsFor m calls (Observed totals) = calls ≡ Observed totals ∷ []

-- a call of the session, with its reply: its pass has the calls behind it, what it spends is counted, and the limits hold
pub record Meters (old : Metered) (call : Dealing) (new : Metered) : Type 0 where
  pub calls : List Dealing
  pub stands : StandsFor old calls call
  pub drawn : Deals Draws old.pass calls new.pass
  pub counted : new.spent ≡ spent_after old.spent call
  pub limits : new.limits ≡ old.limits
  pub within : IsWithin new
