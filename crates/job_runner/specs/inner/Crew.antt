-- What the workers of a batch did who have ended. This project's own.
use Rattle.std.specs.Prelude.{◌≡◌, ℕ, ◌<◌, ◌≤◌, List, [], Bool, true, false, Option, None, Some, All}
use Rattle.std.specs.Prelude.{vec_len, vec_capacity}
use Rattle.std.specs.List.{AllByRecursion}
use Rattle.job_plan.specs.Job.{Job}
use Rattle.job_plan.specs.Chunks.{prices_of}
use Rattle.race_board.specs.Race.{BoardState, SeatState, IsSeatOf, IsDrained, MayDrawAt, workers_of}
use Rattle.race_board.specs.Chunks.{CostJust, completed_by, recorded_by, times_in}
use Rattle.job_runner.specs.declared.answer.Cause.{Cause}
use Rattle.job_runner.specs.declared.answer.Cause.TheVariants.{Thread}
use Rattle.job_runner.specs.declared.worker_outputs.Ended.{Ended}
use Rattle.job_runner.specs.declared.worker_outputs.WorkerOutputs.{WorkerOutputs}
use Rattle.job_runner.specs.Chunk.{chunk_steps}
use Rattle.job_runner.specs.Worked.{IsPieceOf, StandsAfter, recorded}
use Rattle.job_runner.specs.inner.Charged.{IsCharged}
use Rattle.job_runner.specs.inner.CompletedPieces.{AreCompletedPieces, IsFull}

-- a worker of this board that has ended: its pieces are right, and are what its seat tells
pub record IsEnded (board : BoardState) (jobs : List Job) (e : Ended) : Type 0 where
  pub own : IsSeatOf board e.seat
  pub done : e.seat.worker.done ≡ recorded e.worked.pieces.items
  pub pieces : AllByRecursion (IsPieceOf jobs) e.worked.pieces.items
  pub stands : StandsAfter jobs e.worked.failed e.seat.worker.state

-- of some workers that have ended: each chunk that they completed has its piece at its index, and took just its steps; and each
-- that they recorded took those of some of its calls
pub record AreWorkerOutputs (board : BoardState) (jobs : List Job) (g : WorkerOutputs) : Type 0 where
  pub own : All (IsSeatOf board) g.seats.items
  pub just : CostJust (chunk_steps jobs) (completed_by (workers_of g.seats.items))
  pub cost : AllByRecursion (IsCharged jobs) (recorded_by (workers_of g.seats.items))
  pub completed_pieces : AreCompletedPieces jobs g.completed_pieces.items
  pub there : (c : ℕ) → 0 < times_in c (completed_by (workers_of g.seats.items)) → IsFull g.completed_pieces.items c
  -- where none failed, all were told the end
  pub drained : g.failed ≡ false → All (λ (s : SeatState). IsDrained s.worker) g.seats.items

-- seats of a board of these jobs' chunks, whose workers may draw and have done nothing
pub record AreFresh (board : BoardState) (jobs : List Job) (seats : List SeatState) : Type 0 where
  pub ready : All (MayDrawAt board) seats
  pub fresh : All (λ (s : SeatState). s.worker.done ≡ []) seats
  pub prices : board.prices ≡ prices_of jobs

-- nobody has ended yet, and the list has capacity for so many workers
pub record IsRoomFor (board : BoardState) (jobs : List Job) (workers : ℕ) (g : WorkerOutputs) : Type 0 where
  pub none : vec_len g.seats ≡ 0
  pub capacity : workers ≤ vec_capacity g.seats
  pub outputs : AreWorkerOutputs board jobs g

-- of so many threads that were to start these did; whether the start of one was refused
pub record IsStarted (wanted started : ℕ) (refused : Bool) : Type 0 where
  pub some : started ≤ wanted
  pub all : refused ≡ false → started ≡ wanted
  pub one : refused ≡ true → 0 < wanted

-- what so many workers did; or, where a thread or memory was refused, those that had started
pub record IsWorked (board : BoardState) (jobs : List Job) (workers : ℕ) (g : WorkerOutputs) (refused : Option Cause) : Type 0 where
  pub outputs : AreWorkerOutputs board jobs g
  pub all : refused ≡ None → vec_len g.seats ≡ workers
  pub thread : refused ≡ Some Thread → 1 < workers
