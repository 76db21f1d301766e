-- Pieces at places: each at that of its chunk's number. This project's own.
use Rattle.std.specs.Prelude.{◌≡◌, ℕ, List, Option, Some, length, slice_get}
use Rattle.job_plan.specs.Job.{Job}
use Rattle.job_runner.specs.declared.piece.Piece.{Piece}
use Rattle.job_runner.specs.Chunk.{chunk_total}
use Rattle.job_runner.specs.Worked.{IsPieceOf}

-- a piece stands at this index
abbrev pub IsFull : List (Option Piece) → ℕ → Type 0
IsFull completed_pieces c = (p : Piece) × (slice_get completed_pieces c ≡ Some (Some p))

-- what stands at an index is the piece of the chunk of that number
abbrev pub ArePlaced : List Job → List (Option Piece) → Type 0
ArePlaced jobs completed_pieces =
    (c : ℕ) (p : Piece) → slice_get completed_pieces c ≡ Some (Some p) → IsPieceOf jobs p × (p.chunk ≡ c)

-- there is an index for each chunk of the jobs, and no piece at another's
pub record AreCompletedPieces (jobs : List Job) (completed_pieces : List (Option Piece)) : Type 0 where
  pub long : length completed_pieces ≡ chunk_total jobs
  pub placed : ArePlaced jobs completed_pieces
