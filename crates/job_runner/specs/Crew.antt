-- On how many workers a batch runs that may have so many. This project's own.
use Rattle.std.specs.Prelude.{ℕ, ◌+◌, ◌*◌, ◌/◌, max, min, List, [], ◌∷◌}
use Rattle.job_plan.specs.Job.{Job}
use Rattle.job_plan.specs.Price.{price_of}
use Rattle.job_runner.specs.Chunk.{chunks_in}

-- the work of a job, in steps: its price, and 512 for the rows of each chunk; but a chunk has one worker, and counts for no more
-- than one
abbrev pub work_of : Job → ℕ
work_of job = min (price_of job + 512 * chunks_in job) (200000 * chunks_in job)

abbrev pub total_work : List Job → ℕ
total_work [] = 0
total_work (job ∷ jobs) = work_of job + total_work jobs

-- one for each 200,000 steps of the work, but no more than it may have; and one at least
abbrev pub crew_of : ℕ → List Job → ℕ
crew_of workers jobs = max (min workers (total_work jobs / 200000)) 1
