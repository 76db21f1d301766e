-- The race of workers over the chunks of a batch, and what it gives once it is whole. This project's own.
use Rattle.std.specs.Prelude.{◌≡◌, ℕ, List, [], ◌∷◌, map, length, All}
use Rattle.csr_store.specs.Along.{along}
use Rattle.csr_store.specs.Grid.{Grid, row_of}
use Rattle.csr_store.specs.Run.{Row}
use Rattle.race_board.specs.Race.{Worker, IsLawful, IsDrained, AreNumbersBelow, total_of, steps_of}
use Rattle.race_board.specs.Chunks.{AreEachOnce, CostJust, completed_by}
use Rattle.job_plan.specs.Chunks.{prices_of}
use Rattle.job_plan.specs.Job.{Job}
use Rattle.job_runner.specs.Batch.{Result, total_steps}
use Rattle.job_runner.specs.Chunk.{chunk_total, chunks_in, run_in_job, chunk_steps}

-- the race of these workers is whole: they completed each chunk of the jobs exactly once, with the steps of its calls, and each of
-- them was told the end
pub record IsWhole (jobs : List Job) (workers : List Worker) : Type 0 where
  pub once : AreEachOnce (chunk_total jobs) (completed_by workers)
  pub steps : CostJust (chunk_steps jobs) (completed_by workers)
  pub ended : All IsDrained workers

-- what it then gives: of each job the rows of its chunks, in order of their numbers
abbrev pub rows_of_chunks : Job → List Row
rows_of_chunks job = along (λ c. (run_in_job job c).ended) 0 (chunks_in job)

abbrev pub whole : List Job → List (List Row)
whole jobs = map rows_of_chunks jobs

-- the rows of a matrix
abbrev pub all_rows : Grid → List Row
all_rows g = along (λ i. row_of g i ∷ []) 0 g.rows

-- So many workers, with the numbers from 0 on, ran one race over the chunks of the jobs, by the law of a board with these prices,
-- and it is whole. The results have the rows that it gives, and the steps that its workers recorded are those of all jobs.
pub record IsRaced (crew : ℕ) (jobs : List Job) (results : List Result) : Type 0 where
  pub workers : List Worker
  pub draws : ℕ
  pub many : length workers ≡ crew
  pub numbers : AreNumbersBelow crew workers
  pub lawful : IsLawful (prices_of jobs) draws workers
  pub is_whole : IsWhole jobs workers
  pub rows : map (λ (r : Result). all_rows r.matrix) results ≡ whole jobs
  pub spent : total_of steps_of workers ≡ total_steps jobs
