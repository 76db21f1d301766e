-- The text of a line of the log, but for the time at its front, and for the seconds of a session (this project's own).
use Rattle.std.specs.Prelude.{ℕ, List, ◌++◌, Option, None, Some, codes, decimal}
use Rattle.session_log.specs.declared.entry.Account.{Account}
use Rattle.session_log.specs.declared.entry.Entry.{Entry}
use Rattle.session_log.specs.declared.journal.LogFormat.{LogFormat}
use Rattle.session_log.specs.declared.journal.LogFormat.TheVariants.{Text, Json}
use Rattle.session_log.specs.declared.pace.Untold.{Untold}
use Rattle.session_log.specs.Names.{origin_text}

-- a field whose value is a word: ` NAME=VALUE`, or `,"NAME":"VALUE"`
abbrev pub word_text : LogFormat → (name value : List ℕ) → List ℕ
word_text Text name value = codes " " ++ (name ++ (codes "=" ++ value))
word_text Json name value = codes ",\"" ++ (name ++ (codes "\":\"" ++ (value ++ codes "\"")))

-- a field whose value is a number: ` NAME=VALUE`, or `,"NAME":VALUE`
abbrev pub number_text : LogFormat → (name : List ℕ) → ℕ → List ℕ
number_text Text name value = codes " " ++ (name ++ (codes "=" ++ decimal value))
number_text Json name value = codes ",\"" ++ (name ++ (codes "\":" ++ decimal value))

-- a field whose value is a number, or none
abbrev pub number_text_if_any : LogFormat → (name : List ℕ) → Option ℕ → List ℕ
number_text_if_any format name (Some value) = number_text format name value
number_text_if_any Text name None = codes " " ++ (name ++ codes "=none")
number_text_if_any Json name None = codes ",\"" ++ (name ++ codes "\":null")

-- whose line it is: the number of the session, and where its client is
abbrev pub who_text : LogFormat → Entry → List ℕ
who_text format e = number_text_if_any format (codes "id") e.number ++ word_text format (codes "client") (origin_text e.client)

-- what a session took
abbrev pub account_text : LogFormat → Account → List ℕ
account_text format a =
    number_text format (codes "in") a.received
    ++ (number_text format (codes "out") a.sent
    ++ (number_text format (codes "commands") a.commands
    ++ (number_text format (codes "jobs") a.jobs
    ++ (number_text format (codes "steps") a.spent ++ number_text format (codes "refused") a.refused))))

-- what has no line, of lines that tell of steps
abbrev pub untold_text : LogFormat → Untold → List ℕ
untold_text format u = number_text format (codes "untold") u.lines ++ number_text format (codes "untold_steps") u.steps
