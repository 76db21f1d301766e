-- What the chunks of a batch give, by their numbers. The chunks of the first job come first, then those of the second, and so on.
-- This project's own.
use Rattle.std.specs.Prelude.{ℕ, ◌+◌, ◌-◌, nat_lt, if◌then◌else◌, List, [], ◌∷◌}
use Rattle.csr_store.specs.Run.{Run}
use Rattle.bpf_run.specs.Calls.{Call, steps_of}
use Rattle.job_plan.specs.Job.{Job}
use Rattle.job_plan.specs.Meaning.{row_count, column_count, rows_in, calls_in}
use Rattle.job_plan.specs.Chunks.{chunk_count, chunk_first, chunk_last}

-- how many chunks a job has, and all jobs; how many rows chunk c of a job has
abbrev pub chunks_in : Job → ℕ
chunks_in job = chunk_count (row_count job)

abbrev pub chunk_total : List Job → ℕ
chunk_total [] = 0
chunk_total (job ∷ jobs) = chunks_in job + chunk_total jobs

abbrev pub chunk_rows : Job → ℕ → ℕ
chunk_rows job c = chunk_last (row_count job) c - chunk_first c

-- the rows of chunk c of a job, their calls, and the steps that these take
abbrev pub run_in_job : Job → ℕ → Run
run_in_job job c = record {
  first = chunk_first c;
  columns = column_count job;
  ended = rows_in job (chunk_first c) (chunk_rows job c);
  opened = [];
}

abbrev pub calls_in_job : Job → ℕ → List Call
calls_in_job job c = calls_in job (chunk_first c) (chunk_rows job c)

abbrev pub steps_in_job : Job → ℕ → ℕ
steps_in_job job c = steps_of (calls_in_job job c)

-- what is said of chunk c of the jobs, where that says it of a job's own chunks; and where there is no such chunk
abbrev pub at_chunk : {T : Type 0} → (Job → ℕ → T) → T → List Job → ℕ → T
at_chunk said none [] c = none
at_chunk said none (job ∷ jobs) c = if nat_lt c (chunks_in job) then said job c else at_chunk said none jobs (c - chunks_in job)

-- no rows
abbrev pub none_run : Run
none_run = record { first = 0; columns = 0; ended = []; opened = [] }

-- the rows of chunk c of the jobs, their calls, and the steps that these take
abbrev pub run_of : List Job → ℕ → Run
run_of jobs c = at_chunk run_in_job none_run jobs c

abbrev pub calls_of : List Job → ℕ → List Call
calls_of jobs c = at_chunk calls_in_job [] jobs c

abbrev pub chunk_steps : List Job → ℕ → ℕ
chunk_steps jobs c = at_chunk steps_in_job 0 jobs c
