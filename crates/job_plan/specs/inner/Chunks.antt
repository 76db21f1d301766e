-- Chunks as a plan keeps them, without their prices. This project's own.
use Rattle.std.specs.Prelude.{ℕ, ◌+◌, List, [], ◌∷◌, ◌++◌}
use Rattle.csr_store.specs.Along.{along}
use Rattle.job_plan.specs.declared.plan.ChunkRows.{ChunkRows}
use Rattle.job_plan.specs.Job.{Job}
use Rattle.job_plan.specs.Meaning.{row_count}
use Rattle.job_plan.specs.Chunks.{chunk_count, chunk_first, chunk_last}

-- the rows of chunk c of a job, which has index k among the jobs
abbrev pub rows_of_chunk : ℕ → Job → ℕ → ChunkRows
rows_of_chunk k job c = record { job = k; first = chunk_first c; last = chunk_last (row_count job) c }

abbrev pub rows_of_job : ℕ → Job → List ChunkRows
rows_of_job k job = along (λ c. rows_of_chunk k job c ∷ []) 0 (chunk_count (row_count job))

-- of the chunks of jobs, of which the first has index k
abbrev pub rows_from : ℕ → List Job → List ChunkRows
rows_from k [] = []
rows_from k (job ∷ jobs) = rows_of_job k job ++ rows_from (k + 1) jobs
