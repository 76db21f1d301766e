-- The line by which a server reports that it listens (this project's own).
use Rattle.std.specs.Prelude.{ℕ, ◌≡◌, List, ◌++◌, Result, Ok, Err, codes, decimal}
use Rattle.std.specs.Io.KnownBytes.{Appends}
use Rattle.wire.specs.Devices.{SinkState}
use Rattle.wire.specs.Prefixes.{IsPrefixOf}
use Rattle.command_line.specs.declared.ending.Failure.{Failure}
use Rattle.command_line.specs.declared.ending.Failure.TheVariants as failures
use Rattle.command_line.specs.declared.asked.Settings.{Settings}
use Rattle.command_line.specs.declared.asked.Settings.TheVariants.{Run, Serve}

-- `listening` and the port
abbrev pub listening_line : (port : ℕ) → List ℕ
listening_line port = codes "listening " ++ decimal port ++ codes "\n"

-- What a server that failed has written: the line, where it had begun to serve; a front part of it, where it could not be written;
-- and else nothing.
abbrev pub IsReportedFailed : (port : ℕ) → SinkState → SinkState → Failure → Type 0
IsReportedFailed port old new (failures.Settings fault) = new ≡ old
IsReportedFailed port old new failures.Memory = new ≡ old
IsReportedFailed port old new (failures.Output cause) =
    (front : List ℕ) × IsPrefixOf front (listening_line port) × Appends old.contents new.contents front
IsReportedFailed port old new (failures.Session fault cause) = new ≡ old
IsReportedFailed port old new (failures.Binding bound cause) = new ≡ old
IsReportedFailed port old new (failures.Listening fault) = Appends old.contents new.contents (listening_line port)

-- what a server of this port wrote: the line, or what it had written when it failed
abbrev pub IsReported : {A : Type 0} → (port : ℕ) → SinkState → SinkState → Result A Failure → Type 0
IsReported port old new (Ok a) = Appends old.contents new.contents (listening_line port)
IsReported port old new (Err failure) = IsReportedFailed port old new failure

-- the same, by settings
abbrev pub IsReportedFor : {A : Type 0} → Settings → SinkState → SinkState → Result A Failure → Type 0
IsReportedFor (Run steps workers idle log log_format log_every) old new outcome = ⊥
IsReportedFor (Serve port steps workers sessions idle session_seconds min_rate session_steps session_reserve
    log log_format log_every) old new outcome =
    IsReported port old new outcome
