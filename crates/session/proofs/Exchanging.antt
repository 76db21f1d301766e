-- How an exchange is made of its parts.
use Rattle.std.proofs.Common.{◌≡◌, ◌≢◌, ℕ, Bool, true, false, List, [], ◌++◌, Option, None, Some, Result, Ok, Err, refl, sym, ap, ◌∙◌, subst}
use Rattle.std.specs.Bool.{then_some}
use Rattle.std.specs.Prelude.{MatchBool}
use Rattle.wire.specs.InputState.{Stream}
use Rattle.wire.specs.Fetching.{Fetched, IsLined}
use Rattle.wire.specs.Sending.{Outgoing, Sent}
use Rattle.wire.proofs.Sending.{sent_then}
use Rattle.wire.specs.declared.fetch.Lined.{Lined}
use Rattle.wire.specs.declared.fetch.Lined.TheVariants as lined
use Rattle.wire.proofs.Fetching.{fetched_map, fetched_on}
use Rattle.text_words.specs.Words.{words}
use Rattle.command_text.specs.Requests.{Quit, Request, request}
use Rattle.command_text.specs.Readings.{command_of}
use Rattle.command_text.specs.declared.request.Command as code
use Rattle.command_text.specs.declared.rules.FatalRule.{FatalRule}
use Rattle.command_text.specs.declared.rules.FatalRule.TheVariants.{LineTooLong}
use Rattle.step_purse.specs.declared.dealings.Dealing.{Dealing}
use Rattle.workspace.specs.State.{State}
use Rattle.workspace.specs.Turn.{Turn}
use Rattle.session.specs.NextCommand.{NextCommand, Waits, Ends, Goes, refused, next, next_of, next_plain, next_request}
use Rattle.session.specs.Exchange.{Touched, Scene, IsLast, waiting, ending, stopping, going, leaving, Ahead, Went, Final, FinalWhole, Exchanged, behind}
use Rattle.session.specs.inner.Exchange.{Receives, IsReceivedOf, IsEmptied, Awaited, Responds, Tells}
use Rattle.session.specs.declared.end.End.{End}
use Rattle.session.specs.declared.end.End.TheVariants.{InputEnd}
use Rattle.session.specs.declared.end.End.TheVariants as ends
use Rattle.session.specs.declared.end.ServeFault.{ServeFault}
use Rattle.session.specs.declared.end.ServeFault.TheVariants.{Read, Write, Turns, Memory}
use Rattle.session.specs.declared.receiving.Received.{Received}
use Rattle.session.specs.declared.receiving.Received.TheVariants as h
use Rattle.session.proofs.Grammar.{next_behind, plain_goes}

-- what comes of what a command's answer says next
last_of : (cut : Bool) (is : NextCommand) (rest : List ℕ) (old new : State) (received : Received) (ds : List Dealing) (reply : List ℕ) (end : Option End)
    → cut ≡ true → Responds old received ds reply new end → Receives received rest is → IsLast cut is old ds reply end new
last_of cut is rest old new received ds reply None c r h = let w = r rest is h in rw c (going is old new w.0 rest ds reply w.1 w.2)
last_of cut is rest old new received ds reply (Some e) c r h = let w = r rest is h in stopping cut is old new w.0 e ds reply w.1 w.2

module _ {S : Type 0} (leads : S → Dealing → S → Type 0) (ahead : Ahead) (s t : Stream) (o p : Outgoing) (budget : S) (was now : State) (kept : now ≡ was) where
  abbrev before : Scene S
  before = record { stream = s; touched = record { budget = budget; out = o; state = was } }

  abbrev after : Scene S
  after = record { stream = t; touched = record { budget = budget; out = p; state = now } }

  -- nothing was said, since more is waited for or the input has ended
  silent : (n : ℕ) (is : NextCommand) (end : Option End) → ((bytes : List ℕ) → ahead t.held.ended bytes ≡ is → IsLast false (ahead t.held.ended bytes) was [] [] end now)
      → Fetched n s t (λ bytes. ahead t.held.ended bytes ≡ is) → IsEmptied o p → FinalWhole ahead leads n before after end
  silent n is end last f e = (
    record {
      dealings = [];
      text = [];
      fetched = fetched_map n s t (λ bytes. ahead t.held.ended bytes ≡ is) (λ bytes. IsLast false (ahead t.held.ended bytes) was [] [] end now) f last;
      dealt = refl;
      sent = e.0;
    },
    e.1,
  )

  -- the input ended
  pub exchanged_end : Fetched 0 s t (λ bytes. ahead t.held.ended bytes ≡ Ends) → IsEmptied o p → Exchanged ahead leads before after (Ok (Some InputEnd))
  exchanged_end f e = silent 0 Ends (Some InputEnd) (λ bytes w. rw kept (ending false (ahead t.held.ended bytes) was w)) f e

  waits : (n : ℕ) → Fetched n s t (λ bytes. ahead t.held.ended bytes ≡ Waits) → IsEmptied o p → FinalWhole ahead leads n before after None
  waits n f e = silent n Waits None (λ bytes w. rw kept (waiting false (ahead t.held.ended bytes) was w)) f e

  -- nothing was said, and a write failed
  pub exchanged_stuck : (P : List ℕ → Type 0) → Fetched 0 s t P → Sent false [] o p → Exchanged ahead leads before after (Err Write)
  exchanged_stuck P f sent = (
    None,
    record {
      dealings = [];
      text = [];
      fetched = fetched_map 0 s t P (λ bytes. IsLast true (ahead t.held.ended bytes) was [] [] None now) f (λ bytes w. rw kept (leaving (ahead t.held.ended bytes) was));
      dealt = refl;
      sent = sent;
    },
  )

  -- what was waited for isn't there
  pub exchanged_fault : {A : Type 0} (fault : ServeFault) (came : A → List ℕ → Type 0) (missing : List ℕ → Type 0)
      → ((bytes : List ℕ) → missing bytes → ahead t.held.ended bytes ≡ Waits) → Awaited (Err fault) came missing s t o p
      → Exchanged ahead leads before after (Err fault)
  exchanged_fault Read came missing same w = waits 1 (fetched_map 1 s t missing (λ bytes. ahead t.held.ended bytes ≡ Waits) w.0 same) w.1
  exchanged_fault Turns came missing same w = (waits 0 (fetched_map 0 s t missing (λ bytes. ahead t.held.ended bytes ≡ Waits) w.0 same) w.2, w.1)
  exchanged_fault Write came missing same w = exchanged_stuck (λ bytes. Unit {0}) w.0 w.1
  exchanged_fault Memory came missing same w = absurd w

module _ {S : Type 0} (leads : S → Dealing → S → Type 0) (ahead : Ahead) (s t : Stream) (o : Outgoing) (was now : Touched S) (received : Received) (f : Fetched 0 s t (λ bytes. Receives received t.held.bytes (ahead t.held.ended bytes)))
    (first : Sent true [] o was.out) where
  abbrev before_answer : Scene S
  before_answer = record { stream = s; touched = record { budget = was.budget; out = o; state = was.state } }

  abbrev after_answer : Scene S
  after_answer = record { stream = t; touched = now }

  exchanged_told : (end : Option End) → Tells leads was now received (Ok end) → Exchanged ahead leads before_answer after_answer (Ok end)
  exchanged_told None w =
      let r = w.2 t.held.bytes (ahead t.held.ended (s.held.bytes ++ f.got)) f.holds in
      record {
        command = r.0;
        dealings = w.0;
        reply = w.1;
        fetched = record { got = f.got; consumed = f.consumed; follows = f.follows; at_end = f.at_end; ends = f.ends; reads = f.reads; failures = f.failures; holds = r.1 };
        turn = r.2;
        dealt = w.3;
        sent = sent_then true [] w.1 o was.out now.out first w.4;
      }
  exchanged_told (Some e) w =
      let r = w.2 t.held.bytes (ahead t.held.ended (s.held.bytes ++ f.got)) f.holds in (
        record {
          dealings = w.0;
          text = w.1;
          fetched = record { got = f.got; consumed = f.consumed; follows = f.follows; at_end = f.at_end; ends = f.ends; reads = f.reads; failures = f.failures; holds = stopping false (ahead t.held.ended (s.held.bytes ++ f.got)) was.state now.state r.0 e w.0 w.1 r.1 r.2 };
          dealt = w.3;
          sent = sent_then true [] w.1 o was.out now.out first w.4;
        },
        w.5 e refl,
      )

  -- not all that was said is written
  exchanged_cut : Tells leads was now received (Err Write) → Exchanged ahead leads before_answer after_answer (Err Write)
  exchanged_cut w = (
    w.2,
    record {
      dealings = w.0;
      text = w.1;
      fetched = fetched_map 0 s t (λ bytes. Receives received t.held.bytes (ahead t.held.ended bytes)) (λ bytes. IsLast true (ahead t.held.ended bytes) was.state w.0 w.1 w.2 now.state) f
          (λ bytes k. last_of true (ahead t.held.ended bytes) t.held.bytes was.state now.state received w.0 w.1 w.2 refl w.3 k);
      dealt = w.4;
      sent = sent_then false [] w.1 o was.out now.out first w.5;
    },
  )

  -- what was heard was answered
  pub exchanged_answered : (result : Result (Option End) ServeFault) → Tells leads was now received result → Exchanged ahead leads before_answer after_answer result
  exchanged_answered (Ok end) w = exchanged_told end w
  exchanged_answered (Err Write) w = exchanged_cut w
  exchanged_answered (Err Read) w = absurd w
  exchanged_answered (Err Turns) w = absurd w
  exchanged_answered (Err Memory) w = absurd w

  -- the state was the same before
  pub exchanged_from : (state : State) (result : Result (Option End) ServeFault) → was.state ≡ state → Exchanged ahead leads before_answer after_answer result
      → Exchanged ahead leads (record { stream = s; touched = record { budget = was.budget; out = o; state = state } }) after_answer result
  exchanged_from state result kept w =
      subst (λ (x : State). Exchanged ahead leads (record { stream = s; touched = record { budget = was.budget; out = o; state = x } }) after_answer result) kept w

module _ (old new : State) (command : code.Command) (ds : List Dealing) (reply : List ℕ) (turn : Turn old (command_of command) ds reply new) where
  answered_plain : (quits : Bool) → MatchBool quits (command_of command ≡ Quit) (command_of command ≢ Quit)
      → Responds old (h.Plain command) ds reply new (then_some quits ends.Quit)
  answered_plain true is = λ rest n e. (Quit, e ∙ ap (λ c. next_plain c rest) is, subst (λ c. Turn old c ds reply new) is turn)
  answered_plain false other = λ rest n e. (command_of command, e ∙ plain_goes (command_of command) rest other, turn)

  -- a command without a body was answered
  pub responds_plain : (received : Received) (quits : Bool) (end : Option End) → received ≡ h.Plain command → end ≡ then_some quits ends.Quit
      → MatchBool quits (command_of command ≡ Quit) (command_of command ≢ Quit) → Responds old received ds reply new end
  responds_plain received quits end is told m =
      subst (λ r. Responds old r ds reply new end) (sym is) (subst (λ e. Responds old (h.Plain command) ds reply new e) (sym told) (answered_plain quits m))

-- a refusal by which the session ends doesn't let it go on
pub told_stopped : {S : Type 0} (leads : S → Dealing → S → Type 0) (was now : Touched S) (rule : FatalRule) → Tells leads was now (h.Stopped rule) (Ok None) → ⊥
told_stopped leads was now rule w = let r = w.2 [] (refused rule) refl in let bad = r.1 in absurd (cc)

module _ {S : Type 0} (leads : S → Dealing → S → Type 0) (s t u : Stream) (o : Outgoing) (was now : Touched S) (line : List ℕ) (f : Fetched 0 s t (IsLined (Ok lined.Whole) line t.held))
    (first : Sent true [] o was.out) where
  abbrev at_start : Scene S
  at_start = record { stream = s; touched = record { budget = was.budget; out = o; state = was.state } }

  abbrev behind_line : Scene S
  behind_line = record { stream = t; touched = was }

  abbrev at_end : Scene S
  at_end = record { stream = u; touched = now }

  went_then : Went (behind line) leads behind_line at_end → Went next leads at_start at_end
  went_then w = record {
    command = w.command;
    dealings = w.dealings;
    reply = w.reply;
    fetched = fetched_on 0 0 s t u (IsLined (Ok lined.Whole) line t.held) (λ bytes. behind line u.held.ended bytes ≡ Goes w.command u.held.bytes) (λ bytes. next u.held.ended bytes ≡ Goes w.command u.held.bytes) f w.fetched refl
        (λ bytes q. next_behind t.held.ended u.held.ended bytes w.fetched.got line t.held.bytes q w.fetched.follows ∙ w.fetched.holds);
    turn = w.turn;
    dealt = w.dealt;
    sent = sent_then true [] w.reply o was.out now.out first w.sent;
  }

  final_then : (cut : Bool) (m : ℕ) (well : Bool) (end : Option End) → Final (behind line) cut leads m well behind_line at_end end → Final next cut leads m well at_start at_end end
  final_then cut m well end w = record {
    dealings = w.dealings;
    text = w.text;
    fetched = fetched_on 0 m s t u (IsLined (Ok lined.Whole) line t.held) (λ bytes. IsLast cut (behind line u.held.ended bytes) was.state w.dealings w.text end now.state) (λ bytes. IsLast cut (next u.held.ended bytes) was.state w.dealings w.text end now.state) f w.fetched refl
        (λ bytes q. subst (λ is. IsLast cut is was.state w.dealings w.text end now.state) (sym (next_behind t.held.ended u.held.ended bytes w.fetched.got line t.held.bytes q w.fetched.follows)) w.fetched.holds);
    dealt = w.dealt;
    sent = sent_then well [] w.text o was.out now.out first w.sent;
  }

  -- a line came first
  pub exchanged_then : (result : Result (Option End) ServeFault) → Exchanged (behind line) leads behind_line at_end result → Exchanged next leads at_start at_end result
  exchanged_then (Ok None) w = went_then w
  exchanged_then (Ok (Some end)) w = (final_then false 0 true (Some end) w.0, w.1)
  exchanged_then (Err Read) w = (final_then false 1 true None w.0, w.1)
  exchanged_then (Err Turns) w = ((final_then false 0 true None w.0.0, w.0.1), w.1)
  exchanged_then (Err Write) w = (w.0, final_then true 0 false w.0 w.1)
  exchanged_then (Err Memory) w = absurd w

module _ (s t : Stream) where
  -- what a line asked for was heard
  pub heard_behind : (q : Request) (said line : List ℕ) (received : Received) → q ≡ request (words said) → said ≡ line → Fetched 0 s t (IsReceivedOf q t.held received)
      → Fetched 0 s t (λ bytes. Receives received t.held.bytes (behind line t.held.ended bytes))
  heard_behind q said line received e same f =
      fetched_map 0 s t (IsReceivedOf q t.held received) (λ bytes. Receives received t.held.bytes (behind line t.held.ended bytes)) f
      (λ bytes w. subst (λ r. Receives received t.held.bytes (next_request t.held.ended r bytes)) (e ∙ ap (λ l. request (words l)) same) w)

  -- a line was too long
  pub heard_over : (line : List ℕ) (l : Lined) → l ≡ lined.Over → Fetched 0 s t (IsLined (Ok l) line t.held) → Fetched 0 s t (λ bytes. Receives (h.Stopped LineTooLong) t.held.bytes (next t.held.ended bytes))
  heard_over line l e f =
      fetched_map 0 s t (IsLined (Ok l) line t.held) (λ bytes. Receives (h.Stopped LineTooLong) t.held.bytes (next t.held.ended bytes)) f
      (λ bytes w. ap (next_of t.held.ended) (subst (λ m. IsLined (Ok m) line t.held bytes) e w))

  -- the input ended
  pub heard_end : (line : List ℕ) (l : Lined) → l ≡ lined.Nothing → Fetched 0 s t (IsLined (Ok l) line t.held) → Fetched 0 s t (λ bytes. next t.held.ended bytes ≡ Ends)
  heard_end line l e f =
      fetched_map 0 s t (IsLined (Ok l) line t.held) (λ bytes. next t.held.ended bytes ≡ Ends) f
      (λ bytes w. ap (next_of t.held.ended) (subst (λ m. IsLined (Ok m) line t.held bytes) e w))
