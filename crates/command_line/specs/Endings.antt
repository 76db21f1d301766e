-- How the program ends: its exit status, and what it says on standard error: the words of a fault, alone
-- on their line, and on the next line its cause, if the system names one (this project's own).
use Rattle.std.specs.Prelude.{ℕ, List, [], Option, None, Some, Result, Ok, Err, codes}
use Rattle.std.specs.String.{string_bytes}
use Rattle.session.specs.declared.end.End.TheVariants.{Quit, InputEnd, Refused}
use Rattle.session.specs.declared.end.ServeFault.{ServeFault}
use Rattle.session.specs.declared.end.ServeFault.TheVariants as faults
use Rattle.session_log.specs.declared.listen_fault.ListenFault.TheVariants as listen
use Rattle.session_log.specs.declared.cause.Cause.{Cause}
use Rattle.command_line.specs.declared.ending.Done.{Done}
use Rattle.command_line.specs.declared.ending.Done.TheVariants as done
use Rattle.command_line.specs.declared.ending.Failure.{Failure}
use Rattle.command_line.specs.declared.ending.Failure.TheVariants as fails
use Rattle.command_line.specs.declared.ending.Detail.{Detail}
use Rattle.command_line.specs.declared.ending.Detail.TheVariants.{Nothing, Failed, NotBound, NotAccepted}
use Rattle.command_line.specs.declared.ending.Message.{Message}
use Rattle.command_line.specs.declared.ending.Message.TheVariants as messages
use Rattle.command_line.specs.declared.ending.Status.{Status}
use Rattle.command_line.specs.declared.ending.Status.TheVariants as statuses
use Rattle.command_line.specs.declared.asked.SettingsFault.TheVariants.{Words, Version, Memory}

-- the number of each status
abbrev pub code_of : Status → ℕ
code_of statuses.Ended = 0
code_of statuses.Failed = 1
code_of statuses.WordsRefused = 2
code_of statuses.SessionRefused = 3

-- All was served, the version printed, or the one session ended by `quit`, with its input, or by a refusal; the words were refused;
-- or a stream, the network or the memory failed.
abbrev pub status_of : Result Done Failure → Status
status_of (Ok done.Sessions) = statuses.Ended
status_of (Ok done.Version) = statuses.Ended
status_of (Ok (done.Session Quit)) = statuses.Ended
status_of (Ok (done.Session InputEnd)) = statuses.Ended
status_of (Ok (done.Session (Refused rule))) = statuses.SessionRefused
status_of (Err (fails.Settings (Words text))) = statuses.WordsRefused
status_of (Err (fails.Settings Version)) = statuses.Ended
status_of (Err (fails.Settings Memory)) = statuses.Failed
status_of (Err fails.Memory) = statuses.Failed
status_of (Err (fails.Output cause)) = statuses.Failed
status_of (Err (fails.Session fault cause)) = statuses.Failed
status_of (Err (fails.Binding port cause)) = statuses.Failed
status_of (Err (fails.Listening fault)) = statuses.Failed

-- the words for a fault of a session
abbrev pub session_words : ServeFault → List ℕ
session_words faults.Read = codes "spmat: read failed"
session_words faults.Write = codes "spmat: write failed"
session_words faults.Turns = codes "spmat: too many reads"
session_words faults.Memory = codes "spmat: no memory"

-- a failure is named on standard error by these words; what ended well says nothing there
abbrev pub words_of : Result Done Failure → List ℕ
words_of (Ok done) = []
words_of (Err (fails.Settings (Words text))) = string_bytes text
words_of (Err (fails.Settings Version)) = []
words_of (Err (fails.Settings Memory)) = codes "spmat: no memory"
words_of (Err fails.Memory) = codes "spmat: no memory"
words_of (Err (fails.Output cause)) = codes "spmat: write failed"
words_of (Err (fails.Session fault cause)) = session_words fault
words_of (Err (fails.Binding port cause)) = codes "spmat: network failed"
words_of (Err (fails.Listening (listen.Network cause))) = codes "spmat: network failed"
words_of (Err (fails.Listening listen.Memory)) = codes "spmat: no memory"

-- a cause where there is one
abbrev pub failed_by : Option Cause → Detail
failed_by None = Nothing
failed_by (Some cause) = Failed cause

-- what the second line says
abbrev pub detail_of : Result Done Failure → Detail
detail_of (Ok done) = Nothing
detail_of (Err (fails.Settings fault)) = Nothing
detail_of (Err fails.Memory) = Nothing
detail_of (Err (fails.Output cause)) = Failed cause
detail_of (Err (fails.Session fault cause)) = failed_by cause
detail_of (Err (fails.Binding port cause)) = NotBound port cause
detail_of (Err (fails.Listening (listen.Network cause))) = NotAccepted cause
detail_of (Err (fails.Listening listen.Memory)) = Nothing

-- the words of a message
abbrev pub said_by : Message → List ℕ
said_by messages.Nothing = []
said_by (messages.Fault fault) = fault.words.now
said_by (messages.Words text) = string_bytes text

-- what a message says after its words
abbrev pub detail_in : Message → Detail
detail_in messages.Nothing = Nothing
detail_in (messages.Fault fault) = fault.detail
detail_in (messages.Words text) = Nothing
