-- What a log has of the end of a session (this project's own).
use Rattle.std.specs.Prelude.{ℕ, ◌≡◌, Option, None, Some, Result, Ok, Err}
use Rattle.session.specs.declared.end.End.{End}
use Rattle.session.specs.declared.end.End.TheVariants as ends
use Rattle.session.specs.declared.end.ServeFault.{ServeFault}
use Rattle.session.specs.declared.end.ServeFault.TheVariants as faults
use Rattle.session_log.specs.declared.books.ClosedAccount.{ClosedAccount}
use Rattle.session_log.specs.declared.entry.Cut.{Cut}
use Rattle.session_log.specs.declared.entry.Ending.{Ending}
use Rattle.session_log.specs.declared.entry.Ending.TheVariants as logged

-- how a session ended, or why it broke off: a read or a write that failed may have waited for as long as it may, by this bound
abbrev pub ended_as : Result End ServeFault → Option Cut → Ending
ended_as (Ok ends.Quit) cut = logged.Quit
ended_as (Ok ends.InputEnd) cut = logged.InputEnd
ended_as (Ok (ends.Refused rule)) cut = logged.Refused rule
ended_as (Err faults.Read) None = logged.ReadFailed
ended_as (Err faults.Read) (Some cut) = logged.Cut cut
ended_as (Err faults.Write) None = logged.WriteFailed
ended_as (Err faults.Write) (Some cut) = logged.Cut cut
ended_as (Err faults.Turns) cut = logged.TooManyReads
ended_as (Err faults.Memory) cut = logged.NoMemory

-- The log has such an end and so many steps of a session: in a line, or in what the next such line tells.
abbrev pub IsLoggedAs : Option ClosedAccount → Result End ServeFault → Option Cut → (spent : ℕ) → Type 0
IsLoggedAs None outcome cut spent = ⊥
IsLoggedAs (Some closed) outcome cut spent = (closed.ending ≡ ended_as outcome cut) × (closed.spent ≡ spent)
