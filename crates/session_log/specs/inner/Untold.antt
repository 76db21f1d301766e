-- What has no line in a log (this project's own).
use Rattle.std.specs.Prelude.{ℕ, ◌+◌, ◌-◌, ◌^◌, min}
use Rattle.session_log.specs.declared.pace.Untold.{Untold}

abbrev pub none : Untold
none = record { lines = 0; steps = 0 }

-- one event that would have told so many steps
abbrev pub one : ℕ → Untold
one steps = record { lines = 1; steps = steps }

-- what two counts are together: the largest number of 64 bits stands for all above it
abbrev pub joined : Untold → Untold → Untold
joined a b = record { lines = min (a.lines + b.lines) (2 ^ 64 - 1); steps = min (a.steps + b.steps) (2 ^ 64 - 1) }
