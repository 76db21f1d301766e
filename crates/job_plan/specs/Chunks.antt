-- How jobs are cut into chunks, of 256 rows of the result each, the last one shorter. This project's own.
use Rattle.std.specs.Prelude.{◌≡◌, ◌≤◌, ◌<◌, ◌^◌, ℕ, ◌+◌, ◌-◌, ◌*◌, ◌/◌, min, sum_by}
use Rattle.std.specs.Prelude.{List, [], ◌∷◌, ◌++◌, map, length, Some, slice_get}
use Rattle.std.specs.List.{AllByRecursion, flat_map, range_with_len}
use Rattle.csr_store.specs.Along.{along}
use Rattle.job_plan.specs.Job.{Job}
use Rattle.job_plan.specs.Meaning.{row_count, rows_in, calls_in}
use Rattle.job_plan.specs.Price.{price_in, price_of, IsWithinPrice}
use Rattle.job_plan.specs.Refusal.{IsPriced}

-- some rows of a job, which is named by its index among the jobs, and their price, which contracts alone know
pub record Chunk : Type 0 where
  pub job : ℕ
  pub first : ℕ
  -- the row after the last
  pub last : ℕ
  pub price : ℕ

-- so many rows have so many chunks
abbrev pub chunk_count : ℕ → ℕ
chunk_count rows = (rows + 255) / 256

-- chunk c begins with this row, and ends before that one
abbrev pub chunk_first : ℕ → ℕ
chunk_first c = 256 * c

abbrev pub chunk_last : ℕ → ℕ → ℕ
chunk_last rows c = min (256 * (c + 1)) rows

-- chunk c of a job, which has index k among the jobs
abbrev pub chunk_of : ℕ → Job → ℕ → Chunk
chunk_of k job c = record {
  job = k;
  first = chunk_first c;
  last = chunk_last (row_count job) c;
  price = price_in job (chunk_first c) (chunk_last (row_count job) c - chunk_first c);
}

abbrev pub chunks_of : ℕ → Job → List Chunk
chunks_of k job = along (λ c. chunk_of k job c ∷ []) 0 (chunk_count (row_count job))

-- the chunks of jobs, of which the first has index k
abbrev pub chunks_from : ℕ → List Job → List Chunk
chunks_from k [] = []
chunks_from k (job ∷ jobs) = chunks_of k job ++ chunks_from (k + 1) jobs

-- the chunks of a plan
abbrev pub plan_chunks : List Job → List Chunk
plan_chunks jobs = chunks_from 0 jobs

-- their prices
abbrev pub prices_of : List Job → List ℕ
prices_of jobs = map (λ (c : Chunk). c.price) (plan_chunks jobs)

-- what is listed for the rows of chunks, chunk by chunk
abbrev pub over_chunks : {T : Type 0} → (ℕ → ℕ → List T) → List Chunk → List T
over_chunks listed chunks = flat_map (λ (c : Chunk). listed c.first (c.last - c.first)) chunks

-- the chunks of a job are together its rows, each once and in order, and so its matrix, its calls and its price
pub record Cover (k : ℕ) (job : Job) : Type 0 where
  pub numbers : over_chunks range_with_len (chunks_of k job) ≡ range_with_len 0 (row_count job)
  pub rows : over_chunks (rows_in job) (chunks_of k job) ≡ rows_in job 0 (row_count job)
  pub calls : over_chunks (calls_in job) (chunks_of k job) ≡ calls_in job 0 (row_count job)
  pub prices : sum_by (λ (c : Chunk). c.price) (chunks_of k job) ≡ price_of job

-- some rows of one of the jobs, with their price
pub record IsChunkOf (jobs : List Job) (c : Chunk) : Type 0 where
  pub job : Job
  pub is : slice_get jobs c.job ≡ Some job
  pub ordered : c.first ≤ c.last
  pub within : c.last ≤ row_count job
  pub priced : c.price ≡ price_in job c.first (c.last - c.first)

-- chunk c of the jobs has these rows of the job at this index
pub record IsChunkAt (jobs : List Job) (c job first last : ℕ) : Type 0 where
  pub price : ℕ
  pub is : slice_get (plan_chunks jobs) c ≡ Some (record { job = job; first = first; last = last; price = price })
  pub right : IsChunkOf jobs (record { job = job; first = first; last = last; price = price })

-- what holds of the jobs of any plan
pub record IsPlan (jobs : List Job) : Type 0 where
  pub few : length jobs ≤ 64
  pub short : length (plan_chunks jobs) < 2 ^ 63
  pub priced : AllByRecursion IsPriced jobs
  pub within : AllByRecursion IsWithinPrice jobs
  pub cover : (k : ℕ) (job : Job) → Cover k job
