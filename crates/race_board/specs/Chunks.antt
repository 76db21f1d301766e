-- Lists of chunks, each with its steps, and sums over chunks: for whoever joins what the workers of a board did. This project's
-- own.
use Rattle.std.specs.Prelude.{◌≡◌, ℕ, zero, suc, ◌+◌, ◌≤◌, List, [], ◌∷◌, ◌++◌, Some, slice_get}
use Rattle.race_board.specs.declared.worker_state.WorkerState.{WorkerState}
use Rattle.race_board.specs.declared.worker_state.WorkerState.TheVariants.{Free, Holds, Drained, Failed}
use Rattle.race_board.specs.Race.{Worker, total_of, one_if_same, one_if_below}

-- how often the chunk c stands in a list of chunks with their steps
abbrev pub times_in : ℕ → List (ℕ × ℕ) → ℕ
times_in c chunks = total_of (λ (d : ℕ × ℕ). one_if_same c d.0) chunks

-- all their steps
abbrev pub steps_in : List (ℕ × ℕ) → ℕ
steps_in chunks = total_of (λ (d : ℕ × ℕ). d.1) chunks

-- each chunk below n stands in the list once, and no other
abbrev pub AreEachOnce : ℕ → List (ℕ × ℕ) → Type 0
AreEachOnce n chunks = (c : ℕ) → times_in c chunks ≡ one_if_below c n

-- each chunk below n stands in the list at most once, and no other
abbrev pub AreOnceAtMost : ℕ → List (ℕ × ℕ) → Type 0
AreOnceAtMost n chunks = (c : ℕ) → times_in c chunks ≤ one_if_below c n

-- the chunk c stands at just one index of the list
pub record StandsOnce (c : ℕ) (chunks : List (ℕ × ℕ)) : Type 0 where
  pub nth : ℕ
  pub steps : ℕ
  pub there : slice_get chunks nth ≡ Some (c, steps)
  pub only : (k s : ℕ) → slice_get chunks k ≡ Some (c, s) → k ≡ nth

-- what all workers completed, one worker after another
abbrev pub completed_by : List Worker → List (ℕ × ℕ)
completed_by [] = []
completed_by (w ∷ ws) = w.done ++ completed_by ws

abbrev pub failed_chunk : WorkerState → List (ℕ × ℕ)
failed_chunk Free = []
failed_chunk (Holds c) = []
failed_chunk Drained = []
failed_chunk (Failed c s) = (c, s) ∷ []

-- what they recorded, be it complete or failed
abbrev pub recorded_by : List Worker → List (ℕ × ℕ)
recorded_by [] = []
recorded_by (w ∷ ws) = (w.done ++ failed_chunk w.state) ++ recorded_by ws

-- g of each chunk below n, added up
abbrev pub sum_below : (ℕ → ℕ) → ℕ → ℕ
sum_below g zero = 0
sum_below g (suc n) = sum_below g n + g n

-- each chunk of the list took just as many steps as this says
abbrev pub CostJust : (ℕ → ℕ) → List (ℕ × ℕ) → Type 0
CostJust g [] = Unit {0}
CostJust g (d ∷ ds) = (d.1 ≡ g d.0) × CostJust g ds

-- or no more
abbrev pub CostAtMost : (ℕ → ℕ) → List (ℕ × ℕ) → Type 0
CostAtMost g [] = Unit {0}
CostAtMost g (d ∷ ds) = (d.1 ≤ g d.0) × CostAtMost g ds
