-- For a crate above: seats that came back, each with its worker told the end, close a finished race.
use Rattle.std.proofs.Common.{◌≡◌, zero, suc, ◌<◌, List, [], ◌∷◌, length, refl, ◌∙◌, arith}
use Rattle.std.specs.Prelude.{All, Any}
use Rattle.race_board.specs.Race.{Worker, BoardState, SeatState, IsDrained, IsFinished, workers_of}

pub length-workers_of : (seats : List SeatState) → length (workers_of seats) ≡ length seats
length-workers_of [] = refl
length-workers_of (s ∷ ss) = let e = length-workers_of ss in omega arith

pub all_drained : (seats : List SeatState) → All (λ s. IsDrained s.worker) seats → All IsDrained (workers_of seats)
all_drained [] all k d l = absurd (omega arith)
all_drained (s ∷ ss) all zero d l = all 0 s (omega arith)
all_drained (s ∷ ss) all (suc k) d l = all_drained ss (λ i x m. all (suc i) x (omega arith)) k d (omega arith)

any_told : (ws : List Worker) → 0 < length ws → All IsDrained ws → Any IsDrained ws
any_told [] l all = absurd (omega arith)
any_told (w ∷ ws) l all = (0, w, l, refl, all 0 w l)

-- all of a board's seats are here, and each worker was told the end
pub drained_finished : (board : BoardState) (seats : List SeatState) → 0 < length seats → length seats ≡ board.workers → All (λ s. IsDrained s.worker) seats → IsFinished board (workers_of seats)
drained_finished board seats l many all = let e = length-workers_of seats in (e ∙ many, any_told (workers_of seats) (omega arith) (all_drained seats all))
