use Rattle.std.proofs.Common.{◌≡◌, ◌+◌, ◌-◌, ◌++◌, ◌∷◌, [], drop}
use Rattle.std.specs.Vec.Iter.{into_iter_items}
use Rattle.csr_store.specs.Along.{along, summed}
use Rattle.job_runner.specs.Chunk.{chunks_in, steps_in_job}
use Rattle.job_runner.specs.inner.Pieces.{given_at, job_gives}
use Rattle.job_runner.proofs.Joined.{first_rows}
use Rattle.job_runner.proofs.join.join_job.Given as goal

-- the rows of the pieces so far, their steps, and what is left
abbrev pub invariant-loop-next : goal.invariant-loop-next
invariant-loop-next l = record {
  stacked : l.stack ≡ first_rows l.job l._next;
  sum : l.steps + summed (steps_in_job l.job) l._next (chunks_in l.job - l._next) ≡ summed (steps_in_job l.job) 0 (chunks_in l.job);
  left : given_at (into_iter_items l.completed_pieces)
      ≡ along (λ c. job_gives l.job c ∷ []) l._next (chunks_in l.job - l._next)
      ++ drop (chunks_in l.job) (given_at (into_iter_items l.fn.completed_pieces));
}
