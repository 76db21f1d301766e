-- What a worker did at its seat. This project's own.
use Rattle.std.specs.Prelude.{◌≡◌, ℕ, ◌+◌, ◌<◌, Bool, true, false, List, ◌++◌, map}
use Rattle.std.specs.List.{AllByRecursion}
use Rattle.race_board.specs.Race.{BoardState, SeatState, IsSeatOf, steps_of}
use Rattle.race_board.specs.declared.worker_state.WorkerState.{WorkerState}
use Rattle.race_board.specs.declared.worker_state.WorkerState.TheVariants.{Drained, Failed}
use Rattle.bpf_run.specs.Calls.{Charges}
use Rattle.job_plan.specs.Job.{Job}
use Rattle.job_runner.specs.declared.piece.Piece.{Piece}
use Rattle.job_runner.specs.declared.worker.Worked.{Worked}
use Rattle.job_runner.specs.Chunk.{chunk_total, calls_of, run_of, chunk_steps}

-- the definition's rows and steps of a chunk of the jobs
pub record IsPieceOf (jobs : List Job) (p : Piece) : Type 0 where
  pub there : p.chunk < chunk_total jobs
  pub rows : p.rows ≡ run_of jobs p.chunk
  pub steps : p.steps ≡ chunk_steps jobs p.chunk

-- pieces, as a worker's record tells them: each chunk with its steps
abbrev pub recorded : List Piece → List (ℕ × ℕ)
recorded pieces = map (λ (p : Piece). (p.chunk, p.steps)) pieces

-- how a worker stands in the end: it was told the end; or it failed a chunk, with the steps of some of the chunk's calls, each
-- taken at most once
abbrev pub StandsAfter : List Job → Bool → WorkerState → Type 0
StandsAfter jobs false state = state ≡ Drained
StandsAfter jobs true state =
    (c : ℕ) × (s : ℕ) × (state ≡ Failed c s) × (c < chunk_total jobs) × Charges (calls_of jobs c) 0 s

-- what a worker did between two states of its seat: its pieces are right, and its record gained just these, with their steps
pub record HasWorked (board : BoardState) (jobs : List Job) (before after : SeatState) (w : Worked) : Type 0 where
  pub own : IsSeatOf board after
  pub number : after.worker.number ≡ before.worker.number
  pub gained : after.worker.done ≡ before.worker.done ++ recorded w.pieces.items
  pub pieces : AllByRecursion (IsPieceOf jobs) w.pieces.items
  pub stands : StandsAfter jobs w.failed after.worker.state
  pub spent : steps_of after.worker ≡ steps_of before.worker + w.spent
