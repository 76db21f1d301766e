-- What a session holds between two commands: matrices and operators by their names, the jobs that wait, and how many workers may
-- run them (this project's own).
use Rattle.std.specs.Prelude.{ℕ, List, [], Option, None, Some}
use Rattle.std.specs.Str.{bytes_eq}
use Rattle.std.specs.Map.{update}
use Rattle.csr_store.specs.Grid.{Grid}
use Rattle.bpf_verify.specs.Accepted.{Accepted}
use Rattle.job_plan.specs.Job.{Job}

-- what stands under each name, if anything does; the jobs in order of submission; and how many workers may run each batch
pub record State : Type 0 where
  pub matrices : List ℕ → Option Grid
  pub operators : List ℕ → Option Accepted
  pub queue : List Job
  pub workers : ℕ

-- nothing is bound, and no job waits
abbrev pub empty : ℕ → State
empty workers = record { matrices = λ name. None; operators = λ name. None; queue = []; workers = workers }

-- the names after one of them was bound, which replaces what stood there
abbrev pub bound : {V : Type 0} → (List ℕ → Option V) → List ℕ → V → List ℕ → Option V
bound names name value = λ other. update bytes_eq names name (Some value) other
