-- What every event of a race keeps, as equations between sums over its workers. This project's own.
-- `weigh f` adds up f of each worker, wherever their records are stored: in one list, or shared out among seats.
use Rattle.std.specs.Prelude.{◌≡◌, ℕ, zero, suc, ◌+◌, ◌^◌, ◌<◌, ◌≤◌, List, [], ◌∷◌, length, slice_index, min}
use Rattle.race_board.specs.declared.worker_state.WorkerState.{WorkerState}
use Rattle.race_board.specs.declared.worker_state.WorkerState.TheVariants.{Free, Holds, Drained, Failed}
use Rattle.race_board.specs.Race.{Worker, RaceState, IsWithinPrices}
use Rattle.race_board.specs.Race.{total_of, one_if_below, times_drawn, draws_of, ends_of, steps_of}

abbrev pub price_now : List ℕ → WorkerState → ℕ
price_now prices Free = 0
price_now prices (Holds x) = slice_index prices x
price_now prices Drained = 0
price_now prices (Failed x s) = 0

-- the price of the chunk that the worker holds
abbrev pub held_price : List ℕ → Worker → ℕ
held_price prices w = price_now prices w.state

-- the prices of the first chunks, added up
abbrev pub first_prices : List ℕ → ℕ → ℕ
first_prices [] n = 0
first_prices (x ∷ xs) zero = 0
first_prices (x ∷ xs) (suc n) = x + first_prices xs n

-- the balance of a race: its count, its steps spent and its workers
pub record IsBalanced (prices : List ℕ) (count spent : ℕ) (weigh : (Worker → ℕ) → ℕ) : Type 0 where
  -- each chunk below the lesser of count and n was drawn once, and no other was drawn
  pub drawn : (c : ℕ) → weigh (times_drawn c) ≡ one_if_below c (min count (length prices))
  pub draws : weigh draws_of ≡ min count (length prices)
  -- each draw gave a chunk or told the end
  pub counted : weigh draws_of + weigh ends_of ≡ count
  pub steps : weigh steps_of ≡ spent
  -- the prices that are held fit
  pub capacity : spent + weigh (held_price prices) ≤ first_prices prices count

abbrev pub IsTrueState : List ℕ → ℕ → WorkerState → Type 0
IsTrueState prices count Free = Unit {0}
IsTrueState prices count (Holds x) = x < length prices
IsTrueState prices count Drained = length prices ≤ count
IsTrueState prices count (Failed x s) = Unit {0}

-- the steps recorded are at most the prices, a chunk that is held is there, and who was told the end was told the truth
abbrev pub IsSound : List ℕ → ℕ → Worker → Type 0
IsSound prices count w = IsWithinPrices prices w × IsTrueState prices count w.state

abbrev pub AllSound : List ℕ → ℕ → List Worker → Type 0
AllSound prices count [] = Unit {0}
AllSound prices count (w ∷ ws) = IsSound prices count w × AllSound prices count ws

abbrev pub AreNumbered : ℕ → List Worker → Type 0
AreNumbered k [] = Unit {0}
AreNumbered k (w ∷ ws) = (w.number ≡ k) × AreNumbered (k + 1) ws

-- a race that events led to, one after another
pub record IsRun (r : RaceState) : Type 0 where
  pub balanced : IsBalanced r.prices r.count (total_of steps_of r.workers) (λ f. total_of f r.workers)
  pub sound : AllSound r.prices r.count r.workers
  pub numbered : AreNumbered 0 r.workers
  pub small : first_prices r.prices (length r.prices) ≤ 2 ^ 62
