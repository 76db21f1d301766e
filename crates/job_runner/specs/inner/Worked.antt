-- What stands beside specs/Worked.antt for this crate's own modules and proofs.
use Rattle.std.specs.Prelude.{◌≡◌, ℕ, ◌<◌, List, [], ◌∷◌, ◌++◌, length}
use Rattle.race_board.specs.declared.worker_state.WorkerState.TheVariants.{Holds}
use Rattle.race_board.specs.Race.{BoardState, SeatState, IsSeatOf, completed, failed}
use Rattle.bpf_run.specs.Calls.{Charges}
use Rattle.job_forms.specs.declared.region.Chunk.{Chunk}
use Rattle.job_forms.specs.Region.{IsMade}
use Rattle.job_plan.specs.Job.{Job}
use Rattle.job_plan.specs.Chunks.{plan_chunks}
use Rattle.job_runner.specs.declared.piece.Piece.{Piece}
use Rattle.job_runner.specs.declared.worker.ChunkEnd.{ChunkEnd}
use Rattle.job_runner.specs.declared.worker.ChunkEnd.TheVariants.{Completed, Failed}
use Rattle.job_runner.specs.Chunk.{run_of, calls_of, chunk_steps}
use Rattle.job_runner.specs.Worked.{IsPieceOf}

-- the seat is of this board, and its worker holds this chunk
abbrev pub IsHolding : BoardState → ℕ → SeatState → Type 0
IsHolding board chunk seat = IsSeatOf board seat × (seat.worker.state ≡ Holds chunk)

-- this was computed for a chunk of the jobs
abbrev pub IsMadeFor : List Job → ℕ → Chunk → Type 0
IsMadeFor jobs chunk computed = (chunk < length (plan_chunks jobs)) × IsMade (run_of jobs chunk) (calls_of jobs chunk) computed

-- the piece of this chunk is put behind others
pub record Adds (jobs : List Job) (chunk steps : ℕ) (old new : List Piece) : Type 0 where
  pub piece : Piece
  pub right : IsPieceOf jobs piece
  pub chunk_is : piece.chunk ≡ chunk
  pub steps_is : piece.steps ≡ steps
  pub put : new ≡ old ++ piece ∷ []

-- a turn after which the chunk is recorded as complete, with the steps of its calls, and its piece is put behind others
pub record IsCompleted (board : BoardState) (jobs : List Job) (chunk steps : ℕ) (old new : SeatState) (before after : List Piece)
    : Type 0 where
  pub own : IsSeatOf board new
  pub recorded : new.worker ≡ completed chunk steps old.worker
  pub put : Adds jobs chunk steps before after
  pub just : steps ≡ chunk_steps jobs chunk

-- one after which it is recorded as failed, with the steps of some of its calls
pub record IsFailed (board : BoardState) (jobs : List Job) (chunk steps : ℕ) (old new : SeatState) (before after : List Piece)
    : Type 0 where
  pub own : IsSeatOf board new
  pub recorded : new.worker ≡ failed chunk steps old.worker
  pub unchanged : after ≡ before
  pub charged : Charges (calls_of jobs chunk) 0 steps

-- a turn that ends so
abbrev pub IsRecorded : BoardState → List Job → ℕ → ChunkEnd → (old new : SeatState) (before after : List Piece) → Type 0
IsRecorded board jobs chunk (Completed steps) old new before after = IsCompleted board jobs chunk steps old new before after
IsRecorded board jobs chunk (Failed steps) old new before after = IsFailed board jobs chunk steps old new before after
