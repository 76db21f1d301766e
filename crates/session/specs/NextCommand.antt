-- Which command stands next in a stream of bytes (this project's own).
use Rattle.std.specs.Prelude.{ℕ, nat_lt, Bool, if◌then◌else◌, List, length, take, drop}
use Rattle.wire.specs.Lines.{First, first, Partial, Over, Line, Nothing}
use Rattle.text_words.specs.Words.{words}
use Rattle.command_text.specs.Requests.{Command, Quit, Break, Header, with_body, Request, Plain, Body, Fatal, request}
use Rattle.command_text.specs.declared.rules.FatalRule.{FatalRule}
use Rattle.command_text.specs.declared.rules.FatalRule.TheVariants.{InputEndsInBody, LineTooLong}
use Rattle.session.specs.declared.end.End.{End}
use Rattle.session.specs.declared.end.End.TheVariants as ends

-- What the bytes of a stream have next:
pub data NextCommand : Type 0 where
  Waits : NextCommand  -- no whole command, and more may come
  Ends : NextCommand  -- nothing, and nothing more comes
  Goes : Command → (rest : List ℕ) → NextCommand  -- a command, and what follows it
  Stops : Command → End → NextCommand  -- a command that ends the session

-- a refusal that ends the session
abbrev pub refused : FatalRule → NextCommand
refused rule = Stops (Break rule) (ends.Refused rule)

abbrev pub next_plain : Command → List ℕ → NextCommand
next_plain Quit rest = Stops Quit ends.Quit
next_plain c rest = Goes c rest

abbrev pub next_body : Bool → Header → ℕ → List ℕ → NextCommand
next_body ended header len rest =
    if nat_lt (length rest) len
    then (if ended then refused InputEndsInBody else Waits)
    else Goes (with_body header (take len rest)) (drop len rest)

abbrev pub next_request : Bool → Request → List ℕ → NextCommand
next_request ended (Plain c) rest = next_plain c rest
next_request ended (Body header len) rest = next_body ended header len rest
next_request ended (Fatal rule) rest = refused rule

abbrev pub next_of : Bool → First → NextCommand
next_of ended Partial = Waits
next_of ended Over = refused LineTooLong
next_of ended (Line line rest) = next_request ended (request (words line)) rest
next_of ended Nothing = Ends

-- what stands next in the bytes of a stream that has ended or not
abbrev pub next : Bool → List ℕ → NextCommand
next ended bytes = next_of ended (first ended bytes)
