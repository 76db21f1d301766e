-- What a log counts (this project's own).
use Rattle.std.specs.Prelude.{ℕ, ◌+◌, ◌-◌, ◌^◌, min}
use Rattle.session_log.specs.declared.pace.Untold.{Untold}
use Rattle.session_log.specs.declared.tally.Counts.{Counts}
use Rattle.session_log.specs.declared.tally.Kind.{Kind}
use Rattle.session_log.specs.declared.tally.Kind.TheVariants as kinds
use Rattle.session_log.specs.declared.tally.Tally.{Tally}

-- what had no line, of one kind
abbrev pub untold_of : Tally → Kind → Untold
untold_of t kinds.Start = t.starts.untold
untold_of t kinds.Session = t.sessions.untold
untold_of t kinds.TurnedAway = t.turned_away.untold
untold_of t kinds.Refused = t.refused.untold
untold_of t kinds.Batch = t.batches.untold

-- the counts, once something of a kind has come that took so many steps
abbrev pub counts_after : Counts → Kind → ℕ → Counts
counts_after c kinds.Start steps = c
counts_after c kinds.Session steps =
    record c { sessions = min (c.sessions + 1) (2 ^ 64 - 1); steps = min (c.steps + steps) (2 ^ 64 - 1) }
counts_after c kinds.TurnedAway steps = record c { turned_away = min (c.turned_away + 1) (2 ^ 64 - 1) }
counts_after c kinds.Refused steps = record c { refused = min (c.refused + 1) (2 ^ 64 - 1) }
counts_after c kinds.Batch steps = c
