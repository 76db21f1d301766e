use Rattle.std.proofs.Common.{◌≡◌, ◌<◌, ◌≤◌, ◌+◌, ◌-◌, ◌++◌, length}
use Rattle.std.specs.List.{AllByRecursion}
use Rattle.csr_store.specs.Along.{summed}
use Rattle.race_board.specs.declared.worker_state.WorkerState.TheVariants.{Free}
use Rattle.race_board.specs.Race.{IsSeatOf, times_drawn, steps_of}
use Rattle.job_runner.specs.Chunk.{chunk_steps}
use Rattle.job_runner.specs.Worked.{recorded, IsPieceOf}
use Rattle.job_runner.proofs.worker.draw_chunks.Given as goal

abbrev pub invariant-loop-chunk : goal.invariant-loop-chunk
invariant-loop-chunk g l = record {
  own : IsSeatOf l.task.board.now l.seat;
  number : l.seat.worker.number ≡ l.fn.seat.worker.number;
  gained : l.seat.worker.done ≡ l.fn.seat.worker.done ++ recorded l.pieces.items;
  right : AllByRecursion (IsPieceOf l.task.plan.now) l.pieces.items;
  free : l.seat.worker.state ≡ Free;
  sum : steps_of l.seat.worker ≡ steps_of l.fn.seat.worker + l.spent;
  drawn : 0 < l.for_proof_next → 0 < times_drawn (l.for_proof_next - 1) l.seat.worker;
  most : l.spent ≤ summed (chunk_steps l.task.plan.now) 0 l.for_proof_next;
}

-- how many chunks are above the last one
abbrev pub decreases-loop-chunk : goal.decreases-loop-chunk
decreases-loop-chunk g l = length l.task.board.now.prices - l.for_proof_next
