-- What the chunks cost that workers recorded. This project's own.
use Rattle.std.specs.Prelude.{ℕ, List}
use Rattle.bpf_run.specs.Calls.{Charges}
use Rattle.job_plan.specs.Job.{Job}
use Rattle.job_runner.specs.Chunk.{calls_of}

-- a chunk with its steps: they are those of some of its calls, each taken at most once
abbrev pub IsCharged : List Job → ℕ × ℕ → Type 0
IsCharged jobs d = Charges (calls_of jobs d.0) 0 d.1
