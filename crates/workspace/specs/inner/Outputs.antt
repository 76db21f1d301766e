-- The names that jobs will bind, and what stands under names (this project's own).
use Rattle.std.specs.Prelude.{ℕ, List, Option, IsTrue}
use Rattle.std.specs.Arc.{arc_value}
use Rattle.std.specs.declared.sync.Arc.{Arc}
use Rattle.std.specs.List.{All}
use Rattle.std.specs.Option.{option_map}
use Rattle.std.specs.declared.alloc.Global.{Global}
use Rattle.csr_store.specs.Grid.{Grid}
use Rattle.workspace.specs.Names.{Declared, value_at}
use Rattle.workspace.specs.inner.Names.{is_declared}
use Rattle.job_plan.specs.Job.{Job}

-- the output of each of these jobs is declared
abbrev pub AreDeclared : {V : Type 0} → Declared V → List Job → Type 0
AreDeclared declared jobs = All (λ (job : Job). IsTrue (is_declared declared job.output)) jobs

-- the matrix that stands under a name, if one does
abbrev pub grid_at : Declared (Arc Grid Global) → List ℕ → Option Grid
grid_at declared name = option_map arc_value (value_at declared name)
