-- What a line of the log tells of an event (this project's own).
use Rattle.std.specs.Prelude.{ℕ}
use Rattle.session_log.specs.declared.entry.Ending.{Ending}
use Rattle.session_log.specs.declared.entry.Ending.TheVariants as endings
use Rattle.session_log.specs.declared.entry.Event.{Event}
use Rattle.session_log.specs.declared.entry.Event.TheVariants as events
use Rattle.session_log.specs.declared.tally.Kind.{Kind}
use Rattle.session_log.specs.declared.tally.Kind.TheVariants as kinds

-- the kind of an end
abbrev pub end_kind : Ending → Kind
end_kind endings.Quit = kinds.Session
end_kind endings.InputEnd = kinds.Session
end_kind (endings.Refused rule) = kinds.Session
end_kind endings.ReadFailed = kinds.Session
end_kind endings.WriteFailed = kinds.Session
end_kind endings.TooManyReads = kinds.Session
end_kind endings.NoMemory = kinds.Session
end_kind (endings.Cut cut) = kinds.Session
end_kind endings.TurnedAway = kinds.TurnedAway

abbrev pub kind_of : Event → Kind
kind_of events.Start = kinds.Start
kind_of (events.Refused refusal) = kinds.Refused
kind_of (events.End account) = end_kind account.ending
kind_of (events.Runs time standing) = kinds.Batch

-- the steps that its line tells, and no other line does
abbrev pub steps_of : Event → ℕ
steps_of events.Start = 0
steps_of (events.Refused refusal) = 0
steps_of (events.End account) = account.spent
steps_of (events.Runs time standing) = 0
