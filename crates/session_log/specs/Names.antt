-- How a log names ends of sessions, and where clients are (this project's own).
use Rattle.std.specs.Prelude.{ℕ, List, ◌++◌, codes}
use Rattle.std.specs.Net.Text.{socket_text}
use Rattle.command_text.specs.Replies.{fatal_rule_name}
use Rattle.session_log.specs.declared.entry.Cut.TheVariants as cuts
use Rattle.session_log.specs.declared.entry.Ending.{Ending}
use Rattle.session_log.specs.declared.entry.Ending.TheVariants as endings
use Rattle.session_log.specs.declared.origin.Origin.{Origin}
use Rattle.session_log.specs.declared.origin.Origin.TheVariants as origins

abbrev pub ending_text : Ending → List ℕ
ending_text endings.Quit = codes "quit"
ending_text endings.InputEnd = codes "input-end"
ending_text (endings.Refused rule) = codes "refused-" ++ fatal_rule_name rule
ending_text endings.ReadFailed = codes "read-failed"
ending_text endings.WriteFailed = codes "write-failed"
ending_text endings.TooManyReads = codes "too-many-reads"
ending_text endings.NoMemory = codes "no-memory"
ending_text (endings.Cut cuts.Idle) = codes "idle"
ending_text (endings.Cut cuts.Seconds) = codes "seconds"
ending_text (endings.Cut cuts.Slow) = codes "slow"
ending_text endings.TurnedAway = codes "no-busy"

abbrev pub origin_text : Origin → List ℕ
origin_text (origins.Address address) = socket_text address
origin_text origins.Streams = codes "stdin"
