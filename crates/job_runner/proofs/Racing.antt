-- The race of a batch that came to its end is whole, and its rows are those of the results.
use Rattle.std.proofs.Common.{◌≡◌, ◌<◌, ℕ, List, [], ◌∷◌, ◌++◌, append-nil, map, length, false, refl, sym, ap, ◌∙◌, subst, arith}
use Rattle.std.specs.Prelude.{All}
use Rattle.std.proofs.lemmas.List.{length-append}
use Rattle.std.specs.FinMap.{get}
use Rattle.csr_store.specs.Along.{along, cell_at, row_by}
use Rattle.csr_store.specs.Grid.{Grid, row_of}
use Rattle.csr_store.specs.Run.{Row, Run}
use Rattle.csr_store.proofs.Along.{along-same, row_by-row_of}
use Rattle.race_board.specs.Race.{Worker, BoardState, IsLawful, IsDrained, IsFinished, AreNumbersBelow, RanOneRace, total_of}
use Rattle.race_board.specs.Race.{times_completed, one_if_below, steps_of, workers_of}
use Rattle.race_board.specs.Chunks.{AreEachOnce, completed_by, steps_in}
use Rattle.race_board.proofs.Chunks.{closed_completed, completed_steps, recorded_completed, recorded_steps}
use Rattle.race_board.proofs.Finishing.{all_drained, drained_finished}
use Rattle.job_plan.specs.Chunks.{Cover, prices_of}
use Rattle.job_plan.specs.Job.{Job}
use Rattle.job_plan.specs.Meaning.{IsMatrixOf, row_count, column_count, rows_in, value_at}
use Rattle.job_runner.specs.declared.worker_outputs.WorkerOutputs.{WorkerOutputs}
use Rattle.job_runner.specs.Batch.{Result, AreResultsOf, total_steps}
use Rattle.job_runner.specs.Chunk.{chunk_total, chunks_in, chunk_steps, run_in_job}
use Rattle.job_runner.specs.Whole.{IsWhole, all_rows, rows_of_chunks, whole}
use Rattle.job_runner.specs.inner.Crew.{AreWorkerOutputs}
use Rattle.job_runner.proofs.Costs.{all_listed}
use Rattle.job_runner.proofs.Gathering.{below_summed}
use Rattle.job_runner.proofs.Joined.{ended_all, flat-ones, total_of_jobs}

-- where all workers are here and none failed
pub gathered_whole : (board : BoardState) (jobs : List Job) (g : WorkerOutputs) → AreWorkerOutputs board jobs g
    → (IsFinished board (workers_of g.seats.items) → All IsDrained (workers_of g.seats.items)
    → (c : ℕ) → total_of (times_completed c) (workers_of g.seats.items) ≡ one_if_below c (length board.prices))
    → board.prices ≡ prices_of jobs → 0 < length g.seats.items → length g.seats.items ≡ board.workers → g.failed ≡ false
    → IsWhole jobs (workers_of g.seats.items)
gathered_whole board jobs g h completed prices some all failed =
    let drained = h.drained failed in
    let ended = all_drained g.seats.items drained in
    let done = completed (drained_finished board g.seats.items some all drained) ended in
    record {
      once = subst (λ n. AreEachOnce n (completed_by (workers_of g.seats.items))) (all_listed jobs board.prices prices)
          (closed_completed (length board.prices) (workers_of g.seats.items) done);
      steps = h.just;
      ended = ended;
    }

-- where no seat was lost, the workers that are here ran the one race of their board alone
pub one_race : (board : BoardState) (workers : List Worker) (count recorded : ℕ) → RanOneRace board workers count recorded
    → length workers ≡ board.workers
    → AreNumbersBelow board.workers workers × IsLawful board.prices count workers
one_race board workers count recorded ran here = go ran.lost ran.many ran.numbers ran.lawful
  where
    go : (lost : List Worker) → length (workers ++ lost) ≡ board.workers → AreNumbersBelow board.workers (workers ++ lost)
        → IsLawful board.prices count (workers ++ lost) → AreNumbersBelow board.workers workers × IsLawful board.prices count workers
    go [] many numbers lawful =
        let e = append-nil workers in (
          subst (λ (ws : List Worker). AreNumbersBelow board.workers ws) e numbers,
          subst (λ (ws : List Worker). IsLawful board.prices count ws) e lawful,
        )
    go (w ∷ ws) many numbers lawful = let l = length-append workers (w ∷ ws) in absurd (omega (arith, many, here, l))

-- the steps that its workers recorded are those of all jobs
pub whole_spent : ((k : ℕ) (job : Job) → Cover k job) → (jobs : List Job) (workers : List Worker) → IsWhole jobs workers
    → total_of steps_of workers ≡ total_steps jobs
whole_spent cover jobs workers w =
    sym (recorded_steps workers) ∙ ap steps_in (recorded_completed workers w.ended)
    ∙ completed_steps (chunk_steps jobs) (chunk_total jobs) (completed_by workers) w.once w.steps
    ∙ below_summed (chunk_steps jobs) (chunk_total jobs) ∙ total_of_jobs cover jobs

-- the rows of a job's matrix are those of its chunks
rows_of_matrix : (job : Job) (g : Grid) → IsMatrixOf job g → all_rows g ≡ rows_in job 0 (row_count job)
rows_of_matrix job g m =
    ap (λ n. along (λ i. row_of g i ∷ []) 0 n) m.rows
    ∙ along-same (λ i. row_of g i ∷ []) (λ i. row_by (column_count job) (λ j. value_at job (i, j)) ∷ []) 0 (row_count job)
    (λ i l u. ap (λ (row : Row). row ∷ []) (row i (let r = m.rows in omega (arith, u, r))))
  where
    row : (i : ℕ) → i < g.rows → row_of g i ≡ row_by (column_count job) (λ j. value_at job (i, j))
    row i l =
        sym (row_by-row_of g i m.grid) ∙ ap (λ n. row_by n (λ j. get g.cells (i, j))) m.columns
        ∙ along-same (λ j. cell_at j (get g.cells (i, j))) (λ j. cell_at j (value_at job (i, j))) 0 (column_count job)
        (λ j a b. ap (cell_at j) (m.values (i, j) (l, (let c = m.columns in omega (arith, b, c)))))

rows_of_job : (k : ℕ) (job : Job) → Cover k job → rows_of_chunks job ≡ rows_in job 0 (row_count job)
rows_of_job k job c = sym (flat-ones (λ (r : Run). r.ended) (run_in_job job) 0 (chunks_in job)) ∙ ended_all k job c

pub whole_rows : ((k : ℕ) (job : Job) → Cover k job) → (jobs : List Job) (results : List Result) → AreResultsOf jobs results
    → map (λ (r : Result). all_rows r.matrix) results ≡ whole jobs
whole_rows cover [] [] h = refl
whole_rows cover [] (r ∷ rs) h = absurd h
whole_rows cover (job ∷ jobs) [] h = absurd h
whole_rows cover (job ∷ jobs) (r ∷ rs) h =
    ap (λ (rows : List Row). rows ∷ map (λ (x : Result). all_rows x.matrix) rs)
    (rows_of_matrix job r.matrix h.0.matrix ∙ sym (rows_of_job 0 job (cover 0 job)))
    ∙ ap (λ (rest : List (List Row)). rows_of_chunks job ∷ rest) (whole_rows cover jobs rs h.1)
