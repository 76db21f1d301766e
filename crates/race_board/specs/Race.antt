-- The race of workers over chunks, and the board on which workers in threads run it. This project's own.
--
-- There are n chunks, numbered from 0, and each has a price in steps. A worker draws: it gets the next number, and the count of
-- draws grows by one. Below n the number is a chunk, which the worker then holds; from n on the worker is told the end. A worker
-- that holds a chunk records it as complete, or as failed, with the steps that it took, at most the chunk's price, and holds it
-- no more. Who completed a chunk may draw again; who failed one, or was told the end, may not.
use Rattle.std.specs.Prelude.{◌≡◌, ℕ, zero, suc, ◌+◌, ◌<◌, ◌≤◌, ◌==◌, ◌&&◌, nat_lt, nat_le, min, Bool, true, false, if◌then◌else◌}
use Rattle.std.specs.Prelude.{List, [], ◌∷◌, ◌++◌, length, map, fold, slice_index, slice_get, slice_set, All, Any, Contains}
use Rattle.std.specs.Prelude.{Option, Some, None}
use Rattle.race_board.specs.declared.worker_state.WorkerState.{WorkerState}
use Rattle.race_board.specs.declared.worker_state.WorkerState.TheVariants.{Free, Holds, Drained, Failed}
use Rattle.race_board.specs.declared.event.RaceEvent.{RaceEvent}
use Rattle.race_board.specs.declared.totals.Totals.{Totals}
use Rattle.race_board.specs.declared.event.RaceEvent.TheVariants.{Draw, Complete, Fail}

-- 1. The record of a worker: its number, the chunks that it completed, each with its steps, in order, and how it stands now.
pub record Worker : Type 0 where
  pub number : ℕ
  pub done : List (ℕ × ℕ)
  pub state : WorkerState

abbrev pub worker : ℕ → List (ℕ × ℕ) → WorkerState → Worker
worker n d st = record { number = n; done = d; state = st }

-- a worker that has done nothing yet
abbrev pub fresh_worker : ℕ → Worker
fresh_worker n = worker n [] Free

-- n such workers, with the numbers from k on
abbrev pub fresh_workers : ℕ → ℕ → List Worker
fresh_workers k zero = []
fresh_workers k (suc n) = fresh_worker k ∷ fresh_workers (k + 1) n

-- the worker after it drew this chunk
abbrev pub holding : ℕ → Worker → Worker
holding c w = worker w.number w.done (Holds c)

-- the worker after it was told the end
abbrev pub drained : Worker → Worker
drained w = worker w.number w.done Drained

-- the worker after it completed the chunk c with s steps
abbrev pub completed : ℕ → ℕ → Worker → Worker
completed c s w = worker w.number (w.done ++ (c, s) ∷ []) Free

-- the worker after it failed the chunk c with s steps
abbrev pub failed : ℕ → ℕ → Worker → Worker
failed c s w = worker w.number w.done (Failed c s)

-- how a worker stands that drew this number, where there are n chunks
abbrev pub state_after : ℕ → ℕ → WorkerState
state_after n found = if nat_lt found n then Holds found else Drained

-- the worker after it drew this number, be it a chunk or past the last
abbrev pub drawn : List ℕ → ℕ → Worker → Worker
drawn prices found w = worker w.number w.done (state_after (length prices) found)

-- 2. What a record says: how often the worker drew a chunk, how many it drew, what it spent. Of several workers these are added
-- up.
abbrev pub total_of : {A : Type 0} → (A → ℕ) → List A → ℕ
total_of f [] = 0
total_of f (x ∷ xs) = f x + total_of f xs

abbrev pub one_if_same : ℕ → ℕ → ℕ
one_if_same c x = if x == c then 1 else 0

abbrev pub one_if_below : ℕ → ℕ → ℕ
one_if_below c n = if nat_lt c n then 1 else 0

-- how often a worker completed the chunk c
abbrev pub times_completed : ℕ → Worker → ℕ
times_completed c w = total_of (λ (d : ℕ × ℕ). one_if_same c d.0) w.done

abbrev pub times_now : ℕ → WorkerState → ℕ
times_now c Free = 0
times_now c (Holds x) = one_if_same c x
times_now c Drained = 0
times_now c (Failed x s) = one_if_same c x

-- how often a worker drew the chunk c: it completed it, or holds it, or failed it
abbrev pub times_drawn : ℕ → Worker → ℕ
times_drawn c w = times_completed c w + times_now c w.state

abbrev pub draws_now : WorkerState → ℕ
draws_now Free = 0
draws_now (Holds x) = 1
draws_now Drained = 0
draws_now (Failed x s) = 1

-- how many chunks a worker drew
abbrev pub draws_of : Worker → ℕ
draws_of w = total_of (λ (d : ℕ × ℕ). 1) w.done + draws_now w.state

abbrev pub ends_now : WorkerState → ℕ
ends_now Free = 0
ends_now (Holds x) = 0
ends_now Drained = 1
ends_now (Failed x s) = 0

-- 1 where the worker was told the end
abbrev pub ends_of : Worker → ℕ
ends_of w = ends_now w.state

abbrev pub steps_now : WorkerState → ℕ
steps_now Free = 0
steps_now (Holds x) = 0
steps_now Drained = 0
steps_now (Failed x s) = s

-- the steps that a worker recorded
abbrev pub steps_of : Worker → ℕ
steps_of w = total_of (λ (d : ℕ × ℕ). d.1) w.done + steps_now w.state

abbrev pub AreWithin : List ℕ → List (ℕ × ℕ) → Type 0
AreWithin prices [] = Unit {0}
AreWithin prices (d ∷ ds) = (d.1 ≤ slice_index prices d.0) × AreWithin prices ds

abbrev pub IsStateWithin : List ℕ → WorkerState → Type 0
IsStateWithin prices Free = Unit {0}
IsStateWithin prices (Holds x) = Unit {0}
IsStateWithin prices Drained = Unit {0}
IsStateWithin prices (Failed x s) = s ≤ slice_index prices x

-- for no chunk did the worker record more steps than the chunk's price
abbrev pub IsWithinPrices : List ℕ → Worker → Type 0
IsWithinPrices prices w = AreWithin prices w.done × IsStateWithin prices w.state

abbrev pub IsDrained : Worker → Type 0
IsDrained w = w.state ≡ Drained

-- 3. The race, event by event: the prices of its chunks, the count of draws, and the workers, each at the index of its number.
pub record RaceState : Type 0 where
  pub prices : List ℕ
  pub count : ℕ
  pub workers : List Worker

abbrev pub race : List ℕ → ℕ → List Worker → RaceState
race prices count workers = record { prices = prices; count = count; workers = workers }

abbrev pub start : List ℕ → ℕ → RaceState
start prices workers = race prices 0 (fresh_workers 0 workers)

abbrev pub may_draw : WorkerState → Bool
may_draw Free = true
may_draw (Holds c) = false
may_draw Drained = false
may_draw (Failed c s) = false

-- a worker that holds the chunk c may record it with s steps, where they are at most its price
abbrev pub may_record : List ℕ → ℕ → ℕ → WorkerState → Bool
may_record prices c s Free = false
may_record prices c s (Holds d) = (d == c) && nat_le s (slice_index prices c)
may_record prices c s Drained = false
may_record prices c s (Failed d t) = false

abbrev pub draw_by : RaceState → ℕ → Option Worker → RaceState
draw_by r w None = r
draw_by r w (Some x) =
    if may_draw x.state then race r.prices (r.count + 1) (slice_set r.workers w (drawn r.prices r.count x)) else r

abbrev pub record_by : RaceState → ℕ → ℕ → ℕ → (Worker → Worker) → Option Worker → RaceState
record_by r w c s recorded None = r
record_by r w c s recorded (Some x) =
    if may_record r.prices c s x.state then race r.prices r.count (slice_set r.workers w (recorded x)) else r

-- what an event makes of a race: one that doesn't apply, or is of a worker that isn't there, leaves the race as it is
abbrev pub after_event : RaceState → RaceEvent → RaceState
after_event r (Draw w) = draw_by r w (slice_get r.workers w)
after_event r (Complete w c s) = record_by r w c s (completed c s) (slice_get r.workers w)
after_event r (Fail w c s) = record_by r w c s (failed c s) (slice_get r.workers w)

abbrev pub replayed : List ℕ → ℕ → List RaceEvent → RaceState
replayed prices workers events = fold after_event (start prices workers) events

-- 4. The law of a race with these prices, this count and these workers, in any order.
pub record IsLawful (prices : List ℕ) (count : ℕ) (workers : List Worker) : Type 0 where
  -- each chunk below the lesser of the count and n was drawn by one worker, once, and no other was drawn
  pub drawn_once : (c : ℕ) → total_of (times_drawn c) workers ≡ one_if_below c (min count (length prices))
  -- the steps recorded are at most the prices
  pub within_prices : All (IsWithinPrices prices) workers
  -- once a worker was told the end, every chunk was drawn
  pub end_is_true : Any IsDrained workers → (c : ℕ) → c < length prices → total_of (times_drawn c) workers ≡ 1
  -- where all were told the end, so that none failed, each chunk was completed once
  pub all_completed : 0 < length workers → All IsDrained workers
      → (c : ℕ) → c < length prices → total_of (times_completed c) workers ≡ 1

-- each worker stands at the index of its number
abbrev pub AreInPlace : List Worker → Type 0
AreInPlace workers = (k : ℕ) (w : Worker) → slice_get workers k ≡ Some w → w.number ≡ k

-- 5. What is asked of a race.
abbrev pub held_now : WorkerState → Option ℕ
held_now Free = None
held_now (Holds c) = Some c
held_now Drained = None
held_now (Failed c s) = None

-- the chunk that a worker holds
abbrev pub chunk_held : Worker → Option ℕ
chunk_held w = held_now w.state

abbrev pub failed_now : WorkerState → Option (ℕ × ℕ)
failed_now Free = None
failed_now (Holds c) = None
failed_now Drained = None
failed_now (Failed c s) = Some (c, s)

-- the chunk that a worker failed, with its steps
abbrev pub failure : Worker → Option (ℕ × ℕ)
failure w = failed_now w.state

-- there is a worker, and P holds of it
abbrev pub IfThere : (Worker → Type 0) → Option Worker → Type 0
IfThere P None = ⊥
IfThere P (Some w) = P w

-- the worker with the number n completed the chunk c with s steps
abbrev pub IsCompletedBy : List Worker → ℕ → ℕ → ℕ → Type 0
IsCompletedBy workers c n s = IfThere (λ w. Contains w.done (c, s)) (slice_get workers n)

-- 6. The board, as its callers see it: its name, which no other board has, the prices of its chunks, and how many workers it is
-- for.
pub record BoardState : Type 0 where
  pub name : List ℕ
  pub prices : List ℕ
  pub workers : ℕ

-- A seat, as its holder sees it: the name of its board, and the record of the one worker who sits there.
pub record SeatState : Type 0 where
  pub board : List ℕ
  pub worker : Worker

abbrev pub IsSeatOf : BoardState → SeatState → Type 0
IsSeatOf board seat = seat.board ≡ board.name

-- a seat of this board whose worker may draw
abbrev pub MayDrawAt : BoardState → SeatState → Type 0
MayDrawAt board seat = IsSeatOf board seat × (seat.worker.state ≡ Free)

-- the number is above all that the worker drew
abbrev pub IsAboveDraws : Worker → ℕ → Type 0
IsAboveDraws w found = (c : ℕ) → 0 < times_drawn c w → c < found

abbrev pub workers_of : List SeatState → List Worker
workers_of seats = map (λ s. s.worker) seats

-- all the board's workers are here, and one of them was told the end
abbrev pub IsFinished : BoardState → List Worker → Type 0
IsFinished board workers = (length workers ≡ board.workers) × Any IsDrained workers

-- each number below n is that of one worker, and no worker has another
abbrev pub AreNumbersBelow : ℕ → List Worker → Type 0
AreNumbersBelow n workers = (k : ℕ) → total_of (λ (w : Worker). one_if_same k w.number) workers ≡ one_if_below k n

-- With some others, whose seats were lost, these workers are all of the board's, and they ran one race. Its count is what they
-- all drew, and how many were told the end; the steps are what they all recorded
pub record RanOneRace (board : BoardState) (workers : List Worker) (count recorded : ℕ) : Type 0 where
  pub lost : List Worker
  pub many : length (workers ++ lost) ≡ board.workers
  pub numbers : AreNumbersBelow board.workers (workers ++ lost)
  pub lawful : IsLawful board.prices count (workers ++ lost)
  pub counted : total_of draws_of (workers ++ lost) + total_of ends_of (workers ++ lost) ≡ count
  pub steps : total_of steps_of (workers ++ lost) ≡ recorded

-- What closing a board says of the workers whose seats were handed in
pub record IsClosing (board : BoardState) (workers : List Worker) (totals : Totals) : Type 0 where
  -- exact sums over these workers
  pub draws : totals.draws ≡ total_of draws_of workers
  pub spent : totals.spent ≡ total_of steps_of workers
  -- no chunk was drawn by two of them, and none that isn't there
  pub once : (c : ℕ) → total_of (times_drawn c) workers ≤ one_if_below c (length board.prices)
  pub within : All (IsWithinPrices board.prices) workers
  -- with the workers whose seats were lost, they ran one race
  pub race : RanOneRace board workers totals.count totals.recorded
  -- with all workers, nothing was lost
  pub nothing_lost : length workers ≡ board.workers → totals.recorded ≡ totals.spent
  -- with all workers, of whom one was told the end, each chunk was drawn
  pub all : IsFinished board workers → totals.draws ≡ length board.prices
  pub each : IsFinished board workers → (c : ℕ) → total_of (times_drawn c) workers ≡ one_if_below c (length board.prices)
  -- where all of them were told the end, so that none failed, each chunk was completed once
  pub completed : IsFinished board workers → All IsDrained workers
      → (c : ℕ) → total_of (times_completed c) workers ≡ one_if_below c (length board.prices)
