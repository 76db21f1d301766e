-- What stands beside specs/Exchange.antt for this crate's own modules and proofs.
use Rattle.std.specs.Prelude.{ℕ, ◌≡◌, ◌+◌, ◌||◌, Bool, true, false, List, ◌++◌, map}
use Rattle.std.specs.Prelude.{Option, None, Some, [], Result, Ok, Err}
use Rattle.std.specs.Io.KnownBytes.{Consumes, Appends, IsAtEnd}
use Rattle.wire.specs.InputState.{InputState, Stream}
use Rattle.wire.specs.Devices.{SourceState, SinkState}
use Rattle.wire.specs.Fetching.{Fetched, IsLined, MayAsk}
use Rattle.wire.specs.Lines as lines
use Rattle.wire.specs.Prefixes.{IsPrefixOf}
use Rattle.wire.specs.Sending.{Outgoing, Sent}
use Rattle.wire.specs.declared.fetch.Lined.{Lined}
use Rattle.step_purse.specs.declared.dealings.Dealing.{Dealing}
use Rattle.step_budget.specs.Budget.{Deals, amounts_taken, amounts_settled}
use Rattle.command_text.specs.Requests.{Command, Request, request, with_body}
use Rattle.command_text.specs.Readings.{command_of, header_of}
use Rattle.job_plan.specs.Price.{price_of}
use Rattle.workspace.specs.State.{State, empty}
use Rattle.workspace.specs.Turn.{Turn}
use Rattle.session.specs.NextCommand.{NextCommand, Waits, Goes, Stops, refused, next_plain, next_request}
use Rattle.session.specs.Talk.{Talk}
use Rattle.session.specs.declared.end.End.{End}
use Rattle.session.specs.declared.end.ServeFault.{ServeFault}
use Rattle.session.specs.declared.end.ServeFault.TheVariants.{Read, Write, Turns, Memory}
use Rattle.session.specs.declared.receiving.Received.{Received}
use Rattle.session.specs.declared.receiving.Received.TheVariants as h
use Rattle.session.specs.Exchange.{Touched, Scene, Ahead}

-- what was heard stands next, before the rest
abbrev pub Receives : Received → List ℕ → NextCommand → Type 0
Receives (h.Stopped rule) rest is = is ≡ refused rule
Receives (h.Plain command) rest is = is ≡ next_plain (command_of command) rest
Receives (h.Whole header body) rest is = is ≡ Goes (with_body (header_of header) body.items) rest
Receives (h.Dropped header) rest is = (body : List ℕ) × (is ≡ Goes (with_body (header_of header) body) rest)

-- what was heard is answered by its turn: the session goes on, or ends
abbrev pub Responds : State → Received → List Dealing → List ℕ → State → Option End → Type 0
Responds old received dealings reply new None =
    (rest : List ℕ) (is : NextCommand) → Receives received rest is → (c : Command) × (is ≡ Goes c rest)
    × Turn old c dealings reply new
Responds old received dealings reply new (Some end) =
    (rest : List ℕ) (is : NextCommand) → Receives received rest is → (c : Command) × (is ≡ Stops c end)
    × Turn old c dealings reply new

-- All that waited is written.
abbrev pub IsEmptied : Outgoing → Outgoing → Type 0
IsEmptied old new = Sent true [] old new × (new.waits ≡ [])

-- Once all that waits is written, the source may be asked wherever the bytes lack what is waited for, and the end is not held.
abbrev pub MayAwait : (may_ask : SourceState → SinkState → Type 0) → Stream → Outgoing → (lacks : List ℕ → Type 0) → Type 0
MayAwait may_ask s o lacks = (p : Outgoing) → IsEmptied o p → MayAsk may_ask s p.sink lacks

abbrev pub MayAwaitNext : {S : Type 0} → (may_ask : SourceState → SinkState → Type 0) → Ahead → Scene S → Type 0
MayAwaitNext may_ask ahead now = MayAwait may_ask now.stream now.touched.out (λ bytes. ahead false bytes ≡ Waits)

-- What was waited for came, and what was said before it may wait on. Or it isn't there, after a fault: all that was said is
-- written, but for where a write failed.
abbrev pub Awaited : {A : Type 0} → Result A ServeFault → (came : A → List ℕ → Type 0) → (missing : List ℕ → Type 0)
    → Stream → Stream → Outgoing → Outgoing → Type 0
Awaited (Ok a) came missing s t o p = Fetched 0 s t (came a) × Sent true [] o p
Awaited (Err Read) came missing s t o p = Fetched 1 s t missing × IsEmptied o p
Awaited (Err Turns) came missing s t o p = Fetched 0 s t missing × (t.held.reads_left ≡ 0) × IsEmptied o p
Awaited (Err Write) came missing s t o p = Fetched 0 s t (λ bytes. Unit {0}) × Sent false [] o p
Awaited (Err Memory) came missing s t o p = ⊥

-- a line stands first in the bytes, or less than a line
abbrev pub IsLineOf : List ℕ → InputState → Lined → List ℕ → Type 0
IsLineOf line new lined bytes = IsLined (Ok lined) line new bytes

abbrev pub LacksLine : InputState → List ℕ → Type 0
LacksLine new bytes = lines.first new.ended bytes ≡ lines.Partial

-- what the request and the bytes behind it have next was heard, or its body is not all there
abbrev pub IsReceivedOf : Request → InputState → Received → List ℕ → Type 0
IsReceivedOf request new received bytes = Receives received new.bytes (next_request new.ended request bytes)

abbrev pub LacksBody : Request → InputState → List ℕ → Type 0
LacksBody request new bytes = next_request new.ended request bytes ≡ Waits

-- what was heard is answered, and the reply said; where the session ends, all is written, or a front part of it
abbrev pub Tells : {S : Type 0} → (S → Dealing → S → Type 0) → Touched S → Touched S → Received
    → Result (Option End) ServeFault → Type 0
Tells leads old new received (Ok end) =
    (dealings : List Dealing) × (reply : List ℕ) × Responds old.state received dealings reply new.state end
    × Deals leads old.budget dealings new.budget × Sent true reply old.out new.out
    × ((e : End) → end ≡ Some e → new.out.waits ≡ [])
Tells leads old new received (Err Write) =
    (dealings : List Dealing) × (reply : List ℕ) × (end : Option End) × Responds old.state received dealings reply new.state end
    × Deals leads old.budget dealings new.budget × Sent false reply old.out new.out
Tells leads old new received (Err _) = ⊥

-- What was said from the start to an end or a fault, before the reservations that are still held are settled.
pub record Spoken {S : Type 0} (cut : Bool) (leads : S → Dealing → S → Type 0) (failed_reads failed_writes : ℕ)
    (old new : Scene S) (end : Option End) : Type 0 where
  pub read : List ℕ
  pub ended : Bool
  pub dealings : List Dealing
  pub text : List ℕ
  pub written : List ℕ
  pub consumed : Consumes old.stream.source.remaining new.stream.source.remaining read
  pub ends : new.stream.source.told_end ≡ (old.stream.source.told_end || ended)
  pub at_end : ended ≡ true → IsAtEnd new.stream.source.remaining
  pub reads : new.stream.source.reads + new.stream.held.reads_left ≡ old.stream.source.reads + old.stream.held.reads_left
  pub failed_reads_are : new.stream.source.failures ≡ old.stream.source.failures + failed_reads
  pub failed_writes_are : new.touched.out.sink.failures ≡ old.touched.out.sink.failures + failed_writes
  pub appended : Appends old.touched.out.sink.contents new.touched.out.sink.contents written
  pub in_front : IsPrefixOf written text
  pub dealt : Deals leads old.touched.budget dealings new.touched.budget
  -- what was taken is what was settled, and then the prices of the jobs that wait
  pub matched : amounts_taken dealings ≡ amounts_settled dealings ++ map price_of new.touched.state.queue
  pub talk : Talk cut (empty old.touched.state.workers) read ended dealings text end new.touched.state

abbrev pub SpokenWhole : {S : Type 0} → (S → Dealing → S → Type 0) → ℕ → Scene S → Scene S → Option End → Type 0
SpokenWhole leads failed_reads old new end = (s : Spoken false leads failed_reads 0 old new end) × (s.written ≡ s.text)

abbrev pub Conversed : {S : Type 0} → (S → Dealing → S → Type 0) → Scene S → Scene S → Result End ServeFault
    → Type 0
Conversed leads old new (Ok end) = SpokenWhole leads 0 old new (Some end)
Conversed leads old new (Err Read) = SpokenWhole leads 1 old new None
Conversed leads old new (Err Turns) = SpokenWhole leads 0 old new None × (new.stream.held.reads_left ≡ 0)
Conversed leads old new (Err Write) = (end : Option End) × Spoken true leads 0 1 old new end
Conversed leads old new (Err Memory) = ⊥
