-- One exchange of a session: a command is read, answered, and its reply written (this project's own).
use Rattle.std.specs.Prelude.{ℕ, ◌≡◌, Bool, true, false, List, [], Option, None, Some, Result, Ok, Err}
use Rattle.wire.specs.InputState.{Stream}
use Rattle.wire.specs.Fetching.{Fetched}
use Rattle.wire.specs.Sending.{Outgoing, Sent}
use Rattle.step_purse.specs.declared.dealings.Dealing.{Dealing}
use Rattle.step_budget.specs.Budget.{Deals}
use Rattle.text_words.specs.Words.{words}
use Rattle.command_text.specs.Requests.{Command, request}
use Rattle.workspace.specs.State.{State}
use Rattle.workspace.specs.Turn.{Turn}
use Rattle.session.specs.NextCommand.{NextCommand, Waits, Ends, Goes, Stops, next_request}
use Rattle.session.specs.declared.end.End.{End}
use Rattle.session.specs.declared.end.End.TheVariants.{InputEnd}
use Rattle.session.specs.declared.end.ServeFault.{ServeFault}
use Rattle.session.specs.declared.end.ServeFault.TheVariants.{Read, Write, Turns, Memory}

-- what an answer touches: the budget, what is written to with what waits to be, and what the session holds
pub record Touched (S : Type 0) : Type 0 where
  pub budget : S
  pub out : Outgoing
  pub state : State

-- all that an exchange touches
pub record Scene (S : Type 0) : Type 0 where
  pub stream : Stream
  pub touched : Touched S

-- The last thing that is said, by what stands next. Where `cut` is true, the talk may break off: after a command, or before it.
pub data IsLast : Bool → NextCommand → State → List Dealing → List ℕ → Option End → State → Type 0 where
  waiting : (cut : Bool) (is : NextCommand) (s : State) → is ≡ Waits → IsLast cut is s [] [] None s
  ending : (cut : Bool) (is : NextCommand) (s : State) → is ≡ Ends → IsLast cut is s [] [] (Some InputEnd) s
  stopping : (cut : Bool) (is : NextCommand) (s t : State) (c : Command) (e : End) (ds : List Dealing) (reply : List ℕ)
      → is ≡ Stops c e → Turn s c ds reply t → IsLast cut is s ds reply (Some e) t
  going : (is : NextCommand) (s t : State) (c : Command) (rest : List ℕ) (ds : List Dealing) (reply : List ℕ)
      → is ≡ Goes c rest → Turn s c ds reply t → IsLast true is s ds reply None t
  leaving : (is : NextCommand) (s : State) → IsLast true is s [] [] None s

-- What stands next in bytes that have ended or not:
abbrev pub Ahead : Type 0
Ahead = Bool → List ℕ → NextCommand

-- what stands next behind a line
abbrev pub behind : List ℕ → Ahead
behind line ended bytes = next_request ended (request (words line)) bytes

-- a command was read, answered, and its reply said
pub record Went {S : Type 0} (ahead : Ahead) (leads : S → Dealing → S → Type 0) (old new : Scene S) : Type 0 where
  pub command : Command
  pub dealings : List Dealing
  pub reply : List ℕ
  pub fetched : Fetched 0 old.stream new.stream (λ bytes. ahead new.stream.held.ended bytes ≡ Goes command new.stream.held.bytes)
  pub turn : Turn old.touched.state command dealings reply new.touched.state
  pub dealt : Deals leads old.touched.budget dealings new.touched.budget
  pub sent : Sent true reply old.touched.out new.touched.out

-- an exchange in which the session ended or broke off, after so many reads that failed, with all writes well or one that failed
pub record Final {S : Type 0} (ahead : Ahead) (cut : Bool) (leads : S → Dealing → S → Type 0)
    (failed_reads : ℕ) (well : Bool) (old new : Scene S) (end : Option End) : Type 0 where
  pub dealings : List Dealing
  pub text : List ℕ
  pub fetched : Fetched failed_reads old.stream new.stream
      (λ bytes. IsLast cut (ahead new.stream.held.ended bytes) old.touched.state dealings text end new.touched.state)
  pub dealt : Deals leads old.touched.budget dealings new.touched.budget
  pub sent : Sent well text old.touched.out new.touched.out

-- nothing waits to be written
abbrev pub FinalWhole : {S : Type 0} → Ahead → (S → Dealing → S → Type 0) → ℕ → Scene S → Scene S → Option End
    → Type 0
FinalWhole ahead leads failed_reads old new end =
    Final ahead false leads failed_reads true old new end × (new.touched.out.waits ≡ [])

abbrev pub Exchanged : {S : Type 0} → Ahead → (S → Dealing → S → Type 0) → Scene S → Scene S
    → Result (Option End) ServeFault → Type 0
Exchanged ahead leads old new (Ok None) = Went ahead leads old new
Exchanged ahead leads old new (Ok (Some end)) = FinalWhole ahead leads 0 old new (Some end)
Exchanged ahead leads old new (Err Read) = FinalWhole ahead leads 1 old new None
Exchanged ahead leads old new (Err Turns) = FinalWhole ahead leads 0 old new None × (new.stream.held.reads_left ≡ 0)
Exchanged ahead leads old new (Err Write) = (end : Option End) × Final ahead true leads 0 false old new end
Exchanged ahead leads old new (Err Memory) = ⊥
