use Rattle.std.proofs.Common.{◌<◌, ◌⊎◌, ℕ, vec_len}
use Rattle.std.specs.List.{AllByRecursion}
use Rattle.race_board.specs.Chunks.{times_in}
use Rattle.job_runner.specs.Worked.{recorded, IsPieceOf}
use Rattle.job_runner.specs.inner.CompletedPieces.{AreCompletedPieces, IsFull}
use Rattle.job_runner.proofs.completed_pieces.put.Given as goal

-- each piece is still in hand, or stands at its place
abbrev pub invariant-loop-piece : goal.invariant-loop-piece
invariant-loop-piece l = record {
  completed_pieces : AreCompletedPieces l.plan l.completed_pieces.items;
  right : AllByRecursion (IsPieceOf l.plan) l.pieces.items;
  kept : (c : ℕ) → IsFull l.fn.completed_pieces.items c → IsFull l.completed_pieces.items c;
  there : (c : ℕ) → 0 < times_in c (recorded l.fn.pieces.items)
      → (0 < times_in c (recorded l.pieces.items)) ⊎ IsFull l.completed_pieces.items c;
}

abbrev pub decreases-loop-piece : goal.decreases-loop-piece
decreases-loop-piece l = vec_len l.pieces
