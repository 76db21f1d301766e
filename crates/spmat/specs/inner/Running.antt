-- A session of the program on two devices (this project's own).
use Rattle.std.specs.Prelude.{ℕ, ◌≡◌, ◌⊎◌, [], Bool, true, false, Option, None, Some, Result, Ok, Err}
use Rattle.wire.specs.Devices.{SourceState, SinkState}
use Rattle.step_budget.specs.Drawing.{Draws}
use Rattle.step_purse.specs.Histories.{newcomer, own_calls}
use Rattle.step_purse.specs.Passes.{PassState}
use Rattle.step_purse.specs.Shares.{whole}
use Rattle.session.specs.Sessions.{full_session}
use Rattle.session.specs.Talk.{MayAskWhenAnswered, Outcome}
use Rattle.session.specs.declared.end.End.{End}
use Rattle.session.specs.declared.end.ServeFault.{ServeFault}
use Rattle.session.specs.declared.end.ServeFault.TheVariants.{Read, Write, Turns, Memory}
use Rattle.session_log.specs.declared.books.ClosedAccount.{ClosedAccount}
use Rattle.session_log.specs.declared.cause.Cause.{Cause}
use Rattle.session_log.specs.declared.cause.Cause.TheVariants as causes
use Rattle.session_log.specs.declared.entry.Cut.{Cut}
use Rattle.session_log.specs.declared.entry.Cut.TheVariants as cuts
use Rattle.metered_session.specs.Ends.{IsLoggedAs}
use Rattle.metered_session.specs.Metering.{spent_by, told_steps}
use Rattle.command_line.specs.declared.ending.Done.{Done}
use Rattle.command_line.specs.declared.ending.Done.TheVariants as told
use Rattle.command_line.specs.declared.ending.Failure.{Failure}
use Rattle.command_line.specs.declared.ending.Failure.TheVariants as failures
use Rattle.command_line.specs.declared.asked.Settings.{Settings}
use Rattle.command_line.specs.declared.asked.Settings.TheVariants.{Run, Serve}
use Rattle.command_line.specs.declared.asked.SettingsFault.{SettingsFault}
use Rattle.command_line.specs.declared.asked.SettingsFault.TheVariants as asked
use Rattle.spmat.specs.declared.ended.Ended.{Ended}
use Rattle.spmat.specs.declared.ended.Ended.TheVariants as done
use Rattle.spmat.specs.declared.logged.Noted.{Noted}
use Rattle.spmat.specs.declared.solo.Spoken.{Spoken}
use Rattle.spmat.specs.inner.Reporting.{IsReported}
use Rattle.spmat.specs.inner.Serving.{AreSessionsOf, MayFail}

-- a session whose memory was refused
abbrev pub without_memory : Spoken
without_memory = record { outcome = Err Memory; spent = 0; cause = None; account = None }

-- what a session reads from and writes to
pub record Devices : Type 0 where
  pub source : SourceState
  pub sink : SinkState

-- A session of at most 2^32 reads and so many workers, within a purse of so many steps whose only pass had no call. The steps that
-- are told are those of all calls of that pass.
abbrev pub Spoke : (steps workers : ℕ) → Devices → Devices → (spent : ℕ) → Result End ServeFault → Type 0
Spoke steps workers old new spent result =
    (first : PassState) × (last : PassState) × (first.allowance ≡ steps) × (first.known ≡ newcomer [] whole)
    × (spent ≡ told_steps (spent_by (own_calls last.known)))
    × Outcome Draws (full_session workers) (record { budget = first; source = old.source; sink = old.sink })
    (record { budget = last; source = new.source; sink = new.sink }) result

-- such a session; or nothing was read or written, since there was no memory
abbrev pub Ran : (steps workers : ℕ) → Devices → Devices → (spent : ℕ) → Result End ServeFault → Type 0
Ran steps workers old new spent (Ok end) = Spoke steps workers old new spent (Ok end)
Ran steps workers old new spent (Err Read) = Spoke steps workers old new spent (Err Read)
Ran steps workers old new spent (Err Write) = Spoke steps workers old new spent (Err Write)
Ran steps workers old new spent (Err Turns) = Spoke steps workers old new spent (Err Turns)
Ran steps workers old new spent (Err Memory) = (new ≡ old) × (spent ≡ 0)

-- The source may be asked as a session of these settings asks it. For a server it is not known that it may be asked at all.
abbrev pub MayAskFor : (may_ask : SourceState → SinkState → Type 0) → Settings → Devices → Type 0
MayAskFor may_ask (Run steps workers idle log log_format log_every) old = MayAskWhenAnswered may_ask workers old.source old.sink
MayAskFor may_ask (Serve port steps workers sessions idle session_seconds min_rate session_steps session_reserve
    log log_format log_every) old = Unit {0}

-- How the one session of `run` went, over these two devices.
abbrev pub IsRunOf : (steps workers : ℕ) → Devices → Devices → Result Ended Failure → Type 0
IsRunOf steps workers old new (Ok (done.Session s)) = Ran steps workers old new s.spent s.outcome
IsRunOf steps workers old new (Ok (done.Sessions served)) = ⊥
IsRunOf steps workers old new (Ok done.Version) = ⊥
IsRunOf steps workers old new (Err failure) = ⊥

-- How the server ended that settings ask for, and that was to listen on this port: well only with all of its sessions served, or by
-- a fault of its own.
abbrev pub IsServed : (port : ℕ) → Settings → Result Ended Failure → Type 0
IsServed port settings (Ok (done.Session end)) = ⊥
IsServed port settings (Ok (done.Sessions served)) = AreSessionsOf settings served
IsServed port settings (Ok done.Version) = ⊥
IsServed port settings (Err failure) = MayFail port failure

-- What settings ask for was done: one session of their steps and workers, over these two devices; or a server of theirs, which was
-- reported on the sink, and nothing was read.
abbrev pub IsDoneAs : Settings → Devices → Devices → Result Ended Failure → Type 0
IsDoneAs (Run steps workers idle log log_format log_every) old new outcome = IsRunOf steps workers old new outcome
IsDoneAs (Serve port steps workers sessions idle session_seconds min_rate session_steps session_reserve
    log log_format log_every) old new outcome =
    (new.source ≡ old.source) × IsReported port old.sink new.sink outcome
    × IsServed port
    (Serve port steps workers sessions idle session_seconds min_rate session_steps session_reserve log log_format log_every) outcome

-- the version was written, or could not be
abbrev pub IsVersionTold : Result Ended Failure → Type 0
IsVersionTold (Ok (done.Session end)) = ⊥
IsVersionTold (Ok (done.Sessions served)) = ⊥
IsVersionTold (Ok done.Version) = Unit {0}
IsVersionTold (Err (failures.Output cause)) = Unit {0}
IsVersionTold (Err (failures.Session fault cause)) = ⊥
IsVersionTold (Err (failures.Settings fault)) = ⊥
IsVersionTold (Err failures.Memory) = ⊥
IsVersionTold (Err (failures.Binding port cause)) = ⊥
IsVersionTold (Err (failures.Listening fault)) = ⊥

-- words that give no settings are answered with the version, where they ask for it, or else refused
abbrev pub IsRefused : SettingsFault → Result Ended Failure → Type 0
IsRefused asked.Version outcome = IsVersionTold outcome
IsRefused (asked.Words text) outcome = outcome ≡ Err (failures.Settings (asked.Words text))
IsRefused asked.Memory outcome = outcome ≡ Err (failures.Settings asked.Memory)

-- What became of what the command line asks for, where the two devices are there for a session.
abbrev pub IsAnswer : Result Settings SettingsFault → Devices → Devices → Result Ended Failure → Type 0
IsAnswer (Ok settings) old new outcome = IsDoneAs settings old new outcome
IsAnswer (Err fault) old new outcome = (new ≡ old) × IsRefused fault outcome

-- ---- without the devices, whose counts no caller sees

-- `run` returns how its session went, and nothing else
abbrev pub IsOfSession : Result Ended Failure → Type 0
IsOfSession (Ok (done.Session s)) = Unit {0}
IsOfSession (Ok (done.Sessions served)) = ⊥
IsOfSession (Ok done.Version) = ⊥
IsOfSession (Err failure) = ⊥

-- how what the command line asks for may end
abbrev pub MayEnd : Result Settings SettingsFault → Result Ended Failure → Type 0
MayEnd (Ok (Run steps workers idle log log_format log_every)) outcome = IsOfSession outcome
MayEnd (Ok (Serve port steps workers sessions idle session_seconds min_rate session_steps session_reserve
    log log_format log_every)) outcome =
    IsServed port
    (Serve port steps workers sessions idle session_seconds min_rate session_steps session_reserve log log_format log_every) outcome
MayEnd (Err fault) outcome = IsRefused fault outcome

-- the cause of the device that failed, by what each noted
abbrev pub cause_of : Noted → Result End ServeFault → Option Cause
cause_of noted (Ok end) = None
cause_of noted (Err Read) = noted.unread
cause_of noted (Err Write) = noted.unwritten
cause_of noted (Err Turns) = None
cause_of noted (Err Memory) = None

-- what a device noted, or else another cause
abbrev pub noted_or : (noted : Option Cause) → Cause → Cause
noted_or None cause = cause
noted_or (Some noted) cause = noted

-- A session is told with the cause of the device that failed, and with what the log has of it, and a line that could not be written
-- with the cause of its device; all else as it is.
abbrev pub explained : Noted → (account : Option ClosedAccount) → Result Ended Failure → Result Ended Failure
explained noted account (Ok (done.Session s)) = Ok (done.Session (record s { cause = cause_of noted s.outcome; account = account }))
explained noted account (Ok (done.Sessions served)) = Ok (done.Sessions served)
explained noted account (Ok done.Version) = Ok done.Version
explained noted account (Err (failures.Session fault cause)) = Err (failures.Session fault cause)
explained noted account (Err (failures.Settings fault)) = Err (failures.Settings fault)
explained noted account (Err failures.Memory) = Err failures.Memory
explained noted account (Err (failures.Output cause)) = Err (failures.Output (noted_or noted.unwritten cause))
explained noted account (Err (failures.Binding port cause)) = Err (failures.Binding port cause)
explained noted account (Err (failures.Listening fault)) = Err (failures.Listening fault)

-- what the log has of the session
abbrev pub account_in : Result Ended Failure → Option ClosedAccount
account_in (Ok (done.Session s)) = s.account
account_in (Ok (done.Sessions served)) = None
account_in (Ok done.Version) = None
account_in (Err failure) = None

-- the bound by which a call was given up, by its cause
abbrev pub cut_of : Option Cause → Option Cut
cut_of None = None
cut_of (Some (causes.System code)) = None
cut_of (Some causes.Idle) = Some cuts.Idle
cut_of (Some causes.Unknown) = None

-- where there is a log, it has a session's end and its steps
abbrev pub IsAccounted : (has_log : Bool) → Result Ended Failure → Type 0
IsAccounted false outcome = Unit {0}
IsAccounted true (Ok (done.Session s)) = IsLoggedAs s.account s.outcome (cut_of s.cause) s.spent
IsAccounted true (Ok (done.Sessions served)) = Unit {0}
IsAccounted true (Ok done.Version) = Unit {0}
IsAccounted true (Err failure) = Unit {0}

-- the same, unless there was no memory for the log
abbrev pub IsAccountedIfBegun : Result Ended Failure → Type 0
IsAccountedIfBegun outcome = IsAccounted true outcome ⊎ (outcome ≡ Ok (done.Session without_memory))

-- how long a call of a standard stream may wait: as `run` was asked
abbrev pub idle_in : Result Settings SettingsFault → Option ℕ
idle_in (Ok (Run steps workers idle log log_format log_every)) = idle
idle_in (Ok (Serve port steps workers sessions idle session_seconds min_rate session_steps session_reserve
    log log_format log_every)) = None
idle_in (Err fault) = None

-- how a session went, as the process tells it
abbrev pub session_told : Result End ServeFault → (cause : Option Cause) → Result Done Failure
session_told (Ok end) cause = Ok (told.Session end)
session_told (Err fault) cause = Err (failures.Session fault cause)

-- what became of what the command line asks for, as the process tells it
abbrev pub told_as : Result Ended Failure → Result Done Failure
told_as (Ok (done.Session s)) = session_told s.outcome s.cause
told_as (Ok (done.Sessions served)) = Ok told.Sessions
told_as (Ok done.Version) = Ok told.Version
told_as (Err failure) = Err failure
