-- The rule of the running board, which holds between any two steps, and the five kinds of step. This project's own.
-- A view is what a seat of the table knows: the records of its workers. Word 0 is the count of draws, word 1 the steps spent.
use Rattle.std.specs.Prelude.{◌≡◌, ℕ, ◌+◌, ◌^◌, ◌<◌, ◌≤◌, List, [], ◌∷◌, length}
use mathlib.Core.Option.{some}
use lib.ListN.{get_elem?}
use Rattle.atomic_table.specs.Table.{State, Me, Step}
use Rattle.race_board.specs.declared.worker_state.WorkerState.{WorkerState}
use Rattle.race_board.specs.declared.worker_state.WorkerState.TheVariants.{Free, Holds, Drained, Failed}
use Rattle.race_board.specs.declared.race_key.RaceKey.{RaceKey}
use Rattle.race_board.specs.Race.{
  Worker,
  drawn,
  completed,
  failed,
  total_of,
  one_if_same,
  one_if_below,
  times_drawn,
  draws_of,
  steps_of,
  fresh_workers,
}
use Rattle.race_board.specs.inner.Balance.{first_prices, IsBalanced, AllSound}
use Rattle.race_board.specs.Rule.{acted}

-- f of each worker of each view, added up
abbrev pub weigh : List (List Worker) → (Worker → ℕ) → ℕ
weigh views f = total_of (total_of f) views

abbrev pub IsSmall : RaceKey → Type 0
IsSmall t =
    (length t.prices.each < 2 ^ 63) × (first_prices t.prices.each (length t.prices.each) ≤ 2 ^ 62) × (t.workers ≤ 64)

-- At each moment the views together are a race, of which word 0 is the count and word 1 the steps spent: it has the balance of a
-- run, its records are sound, and each worker is in one view, once. A seat that was joined to another leaves a view with no
-- workers.
pub record IsHeld (t : RaceKey) (s : State ℕ (List Worker)) : Type 0 where
  pub count : ℕ
  pub spent : ℕ
  pub words : s.words ≡ count ∷ spent ∷ []
  pub balanced : IsBalanced t.prices.each count spent (weigh s.views)
  pub sound : (j : ℕ) (v : List Worker) → get_elem? s.views j ≡ some v → AllSound t.prices.each count v
  pub numbers : (k : ℕ) → weigh s.views (λ (w : Worker). one_if_same k w.number) ≡ one_if_below k t.workers
  pub many : weigh s.views (λ (w : Worker). 1) ≡ t.workers
  pub small : IsSmall t
  -- no word wraps: with these bounds both are far below 2 ^ 64
  pub in_words : (count ≤ length t.prices.each + t.workers) × (spent ≤ first_prices t.prices.each (length t.prices.each))

-- at the start one seat has all workers
abbrev pub everyone : RaceKey → List Worker
everyone t = fresh_workers 0 t.workers

-- Split: a load of word 0. The first worker goes to a new seat, and the rest stays
abbrev pub first_of : List Worker → List Worker
first_of [] = []
first_of (w ∷ ws) = w ∷ []

abbrev pub rest_of : List Worker → List Worker
rest_of [] = []
rest_of (w ∷ ws) = ws

-- Draw: 1 is added to word 0. The seat's first worker drew the number found, which is above all that the seat had drawn
abbrev pub Draws : List ℕ → Step ℕ → Me ℕ (List Worker) → ℕ → Me ℕ (List Worker) → Type 0
Draws prices st m found m' = (m'.0 ≡ acted (drawn prices found) m.0) × (m'.1 ≡ m.1)
    × ((c : ℕ) → 0 < total_of (times_drawn c) m.0 → c < found) × (total_of draws_of m.0 < 2 ^ 63)

-- the chunk that a worker holds
abbrev pub chunk_now : WorkerState → ℕ
chunk_now Free = 0
chunk_now (Holds c) = c
chunk_now Drained = 0
chunk_now (Failed c s) = 0

abbrev pub completes : ℕ → Worker → Worker
completes s w = completed (chunk_now w.state) s w

abbrev pub fails : ℕ → Worker → Worker
fails s w = failed (chunk_now w.state) s w

-- Complete: steps are added to word 1. The seat's first worker completed the chunk that it held, with these steps
abbrev pub Completes : Step ℕ → Me ℕ (List Worker) → ℕ → Me ℕ (List Worker) → Type 0
Completes st m found m' =
    (m'.0 ≡ acted (completes st.first) m.0) × (m'.1 ≡ m.1) × (total_of steps_of m.0 + st.first ≤ 2 ^ 62)

-- Fail: steps are added to word 1. The seat's first worker failed the chunk that it held, with these steps
abbrev pub Fails : Step ℕ → Me ℕ (List Worker) → ℕ → Me ℕ (List Worker) → Type 0
Fails st m found m' = (m'.0 ≡ acted (fails st.first) m.0) × (m'.1 ≡ m.1) × (total_of steps_of m.0 + st.first ≤ 2 ^ 62)

-- Join: loads of word 0. A seat takes in another's workers behind its own, and learns that what they drew and spent together
-- stays in a word
abbrev pub Learns : Step ℕ → Me ℕ (List Worker) → ℕ → Me ℕ (List Worker) → Type 0
Learns st m found m' = (m'.0 ≡ m.0) × (m'.1 ≡ m.1) × (total_of draws_of m.0 < 2 ^ 63) × (total_of steps_of m.0 ≤ 2 ^ 62)
