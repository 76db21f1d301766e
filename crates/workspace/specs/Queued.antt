-- The jobs of a queue, whose outputs are names of at most 32 bytes; and what came of them within their prices (this project's own).
use Rattle.std.specs.Prelude.{◌≤◌, List, length}
use Rattle.std.specs.List.{All}
use Rattle.job_plan.specs.Job.{Job}

abbrev pub AreNamed : List Job → Type 0
AreNamed jobs = All (λ (job : Job). length job.output ≤ 32) jobs
