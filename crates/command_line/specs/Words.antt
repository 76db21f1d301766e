-- The command line of the program, as the parser of command lines reads it (this project's own):
-- `spmat run --steps N --workers W [--idle SECONDS] [LOG]`, `spmat serve --port P --steps N --workers W [--sessions K]
-- [--idle SECONDS] [--session-seconds N] [--min-rate BYTES] [--session-steps N] [--session-reserve N] [LOG]`, and
-- `spmat --version`. LOG stands for `[--log] [--log-format FORMAT] [--log-every SECONDS]`.
use Rattle.std.specs.Prelude.{ℕ, ◌≡◌, ◌^◌, Bool, true, false, List, [], ◌∷◌, Option, Some, None, codes}
use Rattle.std.specs.Str.Parse.{digits_value, without_leading_plus, IsNumeral}
use Rattle.clap.specs.Words.{App, Row, Rule, Shape, Text, new_app, new_rule, with_rule, with_subcommand}
use Rattle.clap.specs.Words.{first_of, one_of, subcommand_of, IsAmong, fault_of}
use Rattle.std.specs.Str.{bytes_eq}
use Rattle.clap.specs.declared.builder.action.ArgAction.TheVariants.{SetTrue}
use Rattle.clap.specs.declared.error.kind.ErrorKind.TheVariants.{DisplayVersion}
use Rattle.clap.specs.declared.builder.value_parser.ValueParser.{ValueParser}
use Rattle.clap.specs.declared.builder.value_parser.ValueParser.TheVariants.{Unsigned, String as TextParser}
use Rattle.session_log.specs.declared.journal.LogFormat.{LogFormat}
use Rattle.session_log.specs.declared.journal.LogFormat.TheVariants as formats
use Rattle.command_line.specs.declared.asked.Settings.{Settings}
use Rattle.command_line.specs.declared.asked.Settings.TheVariants.{Run, Serve}

-- an option `--NAME N`, which may have to be given
abbrev pub number_option : Text → ValueParser → Bool → Rule
number_option name numbers needed =
    record (new_rule name) { long = Some name; value_names = 1; parser = Some numbers; required = needed }

abbrev pub steps_option : Rule
steps_option = number_option (codes "steps") (Unsigned 0 (2 ^ 62)) true

abbrev pub workers_option : Rule
workers_option = number_option (codes "workers") (Unsigned 1 64) true

abbrev pub port_option : Rule
port_option = number_option (codes "port") (Unsigned 1 65535) true

abbrev pub sessions_option : Rule
sessions_option = number_option (codes "sessions") (Unsigned 1 1000000) false

abbrev pub idle_option : Rule
idle_option = number_option (codes "idle") (Unsigned 1 1000000) false

abbrev pub session_seconds_option : Rule
session_seconds_option = number_option (codes "session-seconds") (Unsigned 1 1000000) false

abbrev pub min_rate_option : Rule
min_rate_option = number_option (codes "min-rate") (Unsigned 1 1000000000) false

abbrev pub session_steps_option : Rule
session_steps_option = number_option (codes "session-steps") (Unsigned 1 (2 ^ 62)) false

abbrev pub session_reserve_option : Rule
session_reserve_option = number_option (codes "session-reserve") (Unsigned 1 (2 ^ 62)) false

-- the option `--log-format FORMAT`, of any text
abbrev pub log_format_option : Rule
log_format_option =
    record (new_rule (codes "log-format")) { long = Some (codes "log-format"); value_names = 1; parser = Some TextParser }

abbrev pub log_every_option : Rule
log_every_option = number_option (codes "log-every") (Unsigned 1 1000000) false

-- the flag `--log`
abbrev pub log_option : Rule
log_option = record (new_rule (codes "log")) { long = Some (codes "log"); action = Some SetTrue }

-- the command `run`
abbrev pub run_command : App
run_command =
    let app = with_rule (with_rule (with_rule (new_app (codes "run")) steps_option) workers_option) idle_option in
    with_rule (with_rule (with_rule app log_option) log_format_option) log_every_option

-- the command `serve`
abbrev pub serve_command : App
serve_command =
    let app = with_rule (with_rule (new_app (codes "serve")) port_option) steps_option in
    let all = with_rule (with_rule (with_rule app workers_option) sessions_option) idle_option in
    let times = with_rule (with_rule all session_seconds_option) min_rate_option in
    let shares = with_rule (with_rule times session_steps_option) session_reserve_option in
    with_rule (with_rule (with_rule shares log_option) log_format_option) log_every_option

-- the program, which has a version, and of which a command has to be given
abbrev pub required_command : Shape → Shape
required_command shape = record shape { has_version = true; subcommand_required = true }

abbrev pub program : App
program =
    let app = new_app (codes "spmat") in
    let top = record app { top = required_command app.top } in
    with_subcommand (with_subcommand top run_command.top) serve_command.top

-- a number that a text writes in decimal digits, which a plus may precede
abbrev pub IsNumberOf : Option Text → ℕ → Type 0
IsNumberOf None n = ⊥
IsNumberOf (Some text) n =
    let digits = without_leading_plus text in
    IsNumeral 10 digits × (n ≡ digits_value 10 digits)

-- the number of a text where there is one, and none where there is none
abbrev pub IsNumberIfAny : Option Text → Option ℕ → Type 0
IsNumberIfAny text None = text ≡ None
IsNumberIfAny text (Some n) = IsNumberOf text n

-- a flag that is set: its text is "true", where it is given
abbrev pub is_set : Option Text → Bool
is_set None = false
is_set (Some text) = bytes_eq text (codes "true")

-- the format that a text names where there is one, and none where there is none
abbrev pub IsFormatIfAny : Option Text → Option LogFormat → Type 0
IsFormatIfAny None o = o ≡ None
IsFormatIfAny (Some text) None = ⊥
IsFormatIfAny (Some text) (Some formats.Text) = text ≡ codes "text"
IsFormatIfAny (Some text) (Some formats.Json) = text ≡ codes "json"

-- the settings are of the command of this name, and have the numbers of the options among these rows
abbrev pub IsAskedIn : Text → List Row → Settings → Type 0
IsAskedIn name rows (Run steps workers idle log log_format log_every) =
    (name ≡ codes "run") × IsNumberOf (one_of (codes "steps") rows) steps × IsNumberOf (one_of (codes "workers") rows) workers
    × IsNumberIfAny (one_of (codes "idle") rows) idle × (log ≡ is_set (first_of (codes "log") rows))
    × IsFormatIfAny (first_of (codes "log-format") rows) log_format × IsNumberIfAny (one_of (codes "log-every") rows) log_every
IsAskedIn name rows (Serve port steps workers sessions idle session_seconds min_rate session_steps session_reserve
    log log_format log_every) =
    (name ≡ codes "serve") × IsNumberOf (one_of (codes "port") rows) port × IsNumberOf (one_of (codes "steps") rows) steps
    × IsNumberOf (one_of (codes "workers") rows) workers × IsNumberIfAny (one_of (codes "sessions") rows) sessions
    × IsNumberIfAny (one_of (codes "idle") rows) idle × IsNumberIfAny (one_of (codes "session-seconds") rows) session_seconds
    × IsNumberIfAny (one_of (codes "min-rate") rows) min_rate × IsNumberIfAny (one_of (codes "session-steps") rows) session_steps
    × IsNumberIfAny (one_of (codes "session-reserve") rows) session_reserve × (log ≡ is_set (first_of (codes "log") rows))
    × IsFormatIfAny (first_of (codes "log-format") rows) log_format × IsNumberIfAny (one_of (codes "log-every") rows) log_every

abbrev pub IsAskedBy : Option (Text × List Row) → Settings → Type 0
IsAskedBy None settings = ⊥
IsAskedBy (Some command) settings = IsAskedIn command.0 command.1 settings

-- the settings are those that the words ask for: of the command that they name
abbrev pub IsAsked : List Text → Settings → Type 0
IsAsked words settings = IsAskedBy (subcommand_of program words) settings

-- the words may be answered with the version
abbrev pub MayAskVersion : List Text → Type 0
MayAskVersion words = IsAmong DisplayVersion (fault_of program words)

-- nothing else than the version may answer the words
abbrev pub AsksVersion : List Text → Type 0
AsksVersion words = fault_of program words ≡ DisplayVersion ∷ []
