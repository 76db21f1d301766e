-- What is reported of the steps that calls of a purse spend (this project's own).
use Rattle.std.specs.Prelude.{ℕ, ◌+◌, ◌-◌, ◌^◌, min, List, [], ◌∷◌}
use Rattle.step_purse.specs.declared.dealings.Dealing.{Dealing}
use Rattle.step_purse.specs.declared.dealings.Dealing.TheVariants.{Reserved, Settled, Observed}

-- the steps that a call spends
abbrev pub spent_in : Dealing → ℕ
spent_in (Reserved amount reply) = 0
spent_in (Settled amount spent) = spent
spent_in (Observed totals) = 0

-- the steps that calls in a row spend
abbrev pub spent_by : List Dealing → ℕ
spent_by [] = 0
spent_by (d ∷ ds) = spent_in d + spent_by ds

-- a count as it is reported: the largest number of 64 bits stands for all above it
abbrev pub told_steps : ℕ → ℕ
told_steps n = min n (2 ^ 64 - 1)

-- the count after a call
abbrev pub spent_after : ℕ → Dealing → ℕ
spent_after count (Reserved amount reply) = count
spent_after count (Settled amount spent) = told_steps (count + spent)
spent_after count (Observed totals) = count
