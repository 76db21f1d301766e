-- Calls of a budget of steps in a row (this project's own). One call, with its reply, is a `Dealing`; what a purse of one thread
-- replies to it, and what it leaves, is defined with the purse.
use Rattle.std.specs.Prelude.{ℕ, ◌≡◌, List, [], ◌∷◌}
use Rattle.step_purse.specs.declared.dealings.Reply.TheVariants.{Took, NotEnough}
use Rattle.step_purse.specs.declared.dealings.Dealing.{Dealing}
use Rattle.step_purse.specs.declared.dealings.Dealing.TheVariants.{Reserved, Settled, Observed}

-- these calls with these replies, in a row, lead from one value to another
abbrev pub Deals : {S : Type 0} → (S → Dealing → S → Type 0) → S → List Dealing → S → Type 0
Deals leads old [] new = new ≡ old
Deals {S} leads old (d ∷ ds) new = (mid : S) × leads old d mid × Deals leads mid ds new

-- the amounts that calls took, in order
abbrev pub amounts_taken : List Dealing → List ℕ
amounts_taken [] = []
amounts_taken (Reserved amount (Took taken) ∷ ds) = amount ∷ amounts_taken ds
amounts_taken (Reserved amount (NotEnough left) ∷ ds) = amounts_taken ds
amounts_taken (Settled amount spent ∷ ds) = amounts_taken ds
amounts_taken (Observed totals ∷ ds) = amounts_taken ds

-- the amounts that calls settled, in order
abbrev pub amounts_settled : List Dealing → List ℕ
amounts_settled [] = []
amounts_settled (Reserved amount reply ∷ ds) = amounts_settled ds
amounts_settled (Settled amount spent ∷ ds) = amount ∷ amounts_settled ds
amounts_settled (Observed totals ∷ ds) = amounts_settled ds
