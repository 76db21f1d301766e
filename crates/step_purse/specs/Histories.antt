-- What a pass knows of the one history of its purse, and what each call adds to it. This project's own.
use Rattle.std.specs.Prelude.{◌≡◌, ◌⊎◌, ℕ, ◌+◌, ◌≤◌, ◌==◌, List, [], ◌∷◌, ◌++◌}
use Rattle.std.specs.Prelude.{length, map, Some, slice_get, if◌then◌else◌}
use Rattle.step_purse.specs.declared.dealings.Totals.{Totals}
use Rattle.step_purse.specs.declared.dealings.Dealing.{Dealing}
use Rattle.step_purse.specs.declared.views.Share.{Share}
use Rattle.step_purse.specs.declared.views.Books.{Books}
use Rattle.step_purse.specs.Plain.{opened, after_all, IsLegal, owed_after, MayMake}
use Rattle.step_purse.specs.Shares.{half, both_shares, IsWhole}

-- the history begins with what was seen
abbrev pub Begins : List Dealing → List Dealing → Type 0
Begins seen history = (rest : List Dealing) × (history ≡ seen ++ rest)

-- each of these calls is in the history, at its index
abbrev pub Stand : List Dealing → List (ℕ × Dealing) → Type 0
Stand history [] = Unit {0}
Stand history (c ∷ cs) = (slice_get history c.0 ≡ Some c.1) × Stand history cs

-- f of each, added up
abbrev pub total_of : {A : Type 0} → (A → ℕ) → List A → ℕ
total_of f [] = 0
total_of f (x ∷ xs) = f x + total_of f xs

-- how many of these calls have the index k
abbrev pub times_at : ℕ → List (ℕ × Dealing) → ℕ
times_at k calls = total_of (λ c. if c.0 == k then 1 else 0) calls

-- a pass that has seen this much, made no call and owes nothing
abbrev pub newcomer : List Dealing → Share → Books
newcomer seen share = record { seen = seen; calls = []; owes = 0; share = share }

-- one who has given half of the share
abbrev pub gives_half : Books → Books
gives_half k = record { seen = k.seen; calls = k.calls; owes = k.owes; share = half k.share }

-- What was seen is a legal history from the allowance, with the pass's own calls, each once. What is owed is reserved at its end
pub record IsSound (allowance : ℕ) (k : Books) : Type 0 where
  pub legal : IsLegal (opened allowance) k.seen
  pub stand : Stand k.seen k.calls
  pub once : (index : ℕ) → times_at index k.calls ≤ 1
  pub reserved : k.owes ≤ (after_all (opened allowance) k.seen).reserved

-- A call: the history now seen begins with all that was seen before, and ends with the call, which is one more of the pass's
-- own. The share stays, and where it is the whole, nothing came between
pub record Makes (allowance : ℕ) (before : Books) (call : Dealing) (now : Books) : Type 0 where
  pub between : List Dealing
  pub seen : now.seen ≡ (before.seen ++ between) ++ call ∷ []
  pub calls : now.calls ≡ before.calls ++ (length (before.seen ++ between), call) ∷ []
  pub covered : MayMake before.owes call
  pub owes : now.owes ≡ owed_after before.owes call
  pub share : now.share ≡ before.share
  pub alone : IsWhole before.share → between ≡ []
  pub sound : IsSound allowance now

-- A join: the history now seen begins with all that each had seen, and the calls, the debts and the shares of both are the
-- pass's own. Where these are the whole, it is what one of the two had seen
pub record Joins (allowance : ℕ) (first second now : Books) : Type 0 where
  pub first_seen : Begins first.seen now.seen
  pub second_seen : Begins second.seen now.seen
  pub calls : now.calls ≡ first.calls ++ second.calls
  pub owes : now.owes ≡ first.owes + second.owes
  pub share : now.share ≡ both_shares first.share second.share
  pub alone : IsWhole now.share → (now.seen ≡ first.seen) ⊎ (now.seen ≡ second.seen)
  pub sound : IsSound allowance now

-- These calls, in this order, led a pass from what it knew before to what it knows now
abbrev pub Leads : ℕ → Books → List Dealing → Books → Type 0
Leads allowance before [] now = now ≡ before
Leads allowance before (d ∷ ds) now = (next : Books) × Makes allowance before d next × Leads allowance next ds now

-- the totals as the pass last saw them
abbrev pub totals_seen : ℕ → Books → Totals
totals_seen allowance k = after_all (opened allowance) k.seen

-- the pass's own calls, without their indices
abbrev pub own_calls : Books → List Dealing
own_calls k = map (λ (c : ℕ × Dealing). c.1) k.calls
