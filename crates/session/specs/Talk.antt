-- A session from its first byte to its last: turns in a row over the commands of a stream of bytes (this project's own).
use Rattle.std.specs.Prelude.{ℕ, ◌≡◌, ◌≤◌, ◌+◌, ◌||◌, Bool, true, false, List, [], ◌++◌}
use Rattle.std.specs.Prelude.{Option, None, Some, Result, Ok, Err}
use Rattle.std.specs.Io.KnownBytes.{Consumes, Appends, IsAtEnd}
use Rattle.wire.specs.Devices.{SourceState, SinkState}
use Rattle.wire.specs.Prefixes.{IsPrefixOf}
use Rattle.step_purse.specs.declared.dealings.Dealing.{Dealing}
use Rattle.step_budget.specs.Budget.{Deals, amounts_taken, amounts_settled}
use Rattle.command_text.specs.Requests.{Command}
use Rattle.workspace.specs.State.{State, empty}
use Rattle.workspace.specs.Turn.{Turn, released}
use Rattle.session.specs.NextCommand.{Waits, Ends, Goes, Stops, next}
use Rattle.session.specs.Sessions.{SessionState}
use Rattle.session.specs.declared.end.End.{End}
use Rattle.session.specs.declared.end.End.TheVariants.{InputEnd}
use Rattle.session.specs.declared.end.ServeFault.{ServeFault}
use Rattle.session.specs.declared.end.ServeFault.TheVariants as faults

-- What is said to the bytes of a stream that has ended or not, from what the session holds on: the dealings, the text, the end,
-- and what the session then holds. Where `cut` is true, it may break off between two commands.
pub data Talk : Bool → State → List ℕ → Bool → List Dealing → List ℕ → Option End → State → Type 0 where
  leave : (s : State) (bytes : List ℕ) (ended : Bool) → Talk true s bytes ended [] [] None s
  wait : (cut : Bool) (s : State) (bytes : List ℕ) (ended : Bool) → next ended bytes ≡ Waits
      → Talk cut s bytes ended [] [] None s
  finish : (cut : Bool) (s : State) (bytes : List ℕ) (ended : Bool) → next ended bytes ≡ Ends
      → Talk cut s bytes ended [] [] (Some InputEnd) s
  stop : (cut : Bool) (s t : State) (bytes : List ℕ) (ended : Bool) (c : Command) (e : End) (ds : List Dealing) (reply : List ℕ)
      → next ended bytes ≡ Stops c e → Turn s c ds reply t → Talk cut s bytes ended ds reply (Some e) t
  go : (cut : Bool) (s t u : State) (bytes rest : List ℕ) (ended : Bool) (c : Command) (ds es : List Dealing)
      (reply text : List ℕ) (end : Option End) → next ended bytes ≡ Goes c rest → Turn s c ds reply t
      → Talk cut t rest ended es text end u → Talk cut s bytes ended (ds ++ es) (reply ++ text) end u

-- What a session is given, at one moment: its budget, what it reads from, and what it writes to.
pub record Outside (S : Type 0) : Type 0 where
  pub budget : S
  pub source : SourceState
  pub sink : SinkState

-- What a session, each of whose batches may have so many workers, did from nothing bound or queued to an end or a fault: what it
-- read, what it wrote, and its calls of the budget, by which each amount that was taken is settled, once and in the same order. The
-- talk is of a stream that has ended exactly where the source reported its end.
pub record Said {S : Type 0} (workers : ℕ) (cut : Bool) (leads : S → Dealing → S → Type 0) (old new : Outside S) (end : Option End)
    : Type 0 where
  pub read : List ℕ
  pub ended : Bool
  pub dealings : List Dealing
  pub text : List ℕ
  pub written : List ℕ
  pub held : State
  pub consumed : Consumes old.source.remaining new.source.remaining read
  pub ends : new.source.told_end ≡ (old.source.told_end || ended)
  pub at_end : ended ≡ true → IsAtEnd new.source.remaining
  pub appended : Appends old.sink.contents new.sink.contents written
  pub in_front : IsPrefixOf written text
  pub dealt : Deals leads old.budget (dealings ++ released held.queue) new.budget
  pub matched : amounts_settled (dealings ++ released held.queue) ≡ amounts_taken (dealings ++ released held.queue)
  pub talk : Talk cut (empty workers) read ended dealings text end held

-- all of the text was written
abbrev pub SaidAll : {S : Type 0} → ℕ → (S → Dealing → S → Type 0) → Outside S → Outside S → Option End → Type 0
SaidAll workers leads old new end = (said : Said workers false leads old new end) × (said.written ≡ said.text)

-- there were at most so many reads, m of them failed, and n writes failed
pub record Counts {S : Type 0} (limit m n : ℕ) (old new : Outside S) : Type 0 where
  pub reads : new.source.reads ≤ old.source.reads + limit
  pub failed_reads : new.source.failures ≡ old.source.failures + m
  pub failed_writes : new.sink.failures ≡ old.sink.failures + n

-- What such a session leaves, by its answer. After a read that failed, or one too many, the text is that of the
-- complete commands. After a write that failed, what was written is a prefix of the text of some first commands. Out of memory is
-- answered only at the start: nothing was read or written, and the budget was not called.
abbrev pub Outcome : {S : Type 0} → (S → Dealing → S → Type 0) → SessionState → Outside S → Outside S → Result End ServeFault
    → Type 0
Outcome leads session old new (Ok end) = SaidAll session.workers leads old new (Some end) × Counts session.reads 0 0 old new
Outcome leads session old new (Err faults.Read) = SaidAll session.workers leads old new None × Counts session.reads 1 0 old new
Outcome leads session old new (Err faults.Turns) =
    SaidAll session.workers leads old new None
    × (Counts session.reads 0 0 old new × (new.source.reads ≡ old.source.reads + session.reads))
Outcome leads session old new (Err faults.Write) =
    ((end : Option End) × Said session.workers true leads old new end) × Counts session.reads 0 1 old new
Outcome leads session old new (Err faults.Memory) = new ≡ old

-- All that was read is answered: what was written is the reply text of the complete commands in what was read, and no call of a
-- device has failed.
pub record IsAnswered (workers : ℕ) (source : SourceState) (sink : SinkState) (now : SourceState) (out : SinkState) : Type 0 where
  pub read : List ℕ
  pub text : List ℕ
  pub dealings : List Dealing
  pub held : State
  pub consumed : Consumes source.remaining now.remaining read
  pub appended : Appends sink.contents out.contents text
  pub failed_reads : now.failures ≡ source.failures
  pub failed_writes : out.failures ≡ sink.failures
  pub talk : Talk false (empty workers) read false dealings text None held

-- A session of so many workers may ask its source for more bytes wherever all that it has read is answered.
abbrev pub MayAskWhenAnswered : (may_ask : SourceState → SinkState → Type 0) (workers : ℕ) → SourceState → SinkState → Type 0
MayAskWhenAnswered may_ask workers source sink =
    (now : SourceState) (out : SinkState) → IsAnswered workers source sink now out → may_ask now out
