-- At which moments the source is asked for a line, or for a body behind it.
use Rattle.std.proofs.Common.{◌≡◌, ℕ, Bool, true, false, List, [], ◌++◌, length, length-append, Ok, sym, ap, ◌∙◌, subst, append_assoc, arith}
use Rattle.std.proofs.lemmas.Bool.Decides.{nat_tests}
use Rattle.std.specs.Prelude.{nat_lt}
use Rattle.wire.specs.Devices.{SourceState, SinkState}
use Rattle.wire.specs.InputState.{Stream}
use Rattle.wire.specs.Fetching.{Fetched, Follows, IsLined, LacksBytes, MayAsk}
use Rattle.wire.specs.Lines as lines
use Rattle.wire.specs.Sending.{Outgoing, Sent}
use Rattle.wire.specs.declared.fetch.Lined.TheVariants as lined
use Rattle.wire.proofs.Asking.{open_before}
use Rattle.wire.proofs.Known.{consumes_more}
use Rattle.wire.proofs.Sending.{sent_then}
use Rattle.command_text.specs.Requests.{Header, Request, Body}
use Rattle.session.specs.NextCommand.{Waits, next, next_of, next_request}
use Rattle.session.specs.Exchange.{behind}
use Rattle.session.specs.inner.Exchange.{MayAwait}
use Rattle.session.proofs.Bodies.{cut_short}
use Rattle.session.proofs.Grammar.{next_behind}

-- anything may follow what is open
pub open_follows : (ended : Bool) (more : List ℕ) → ended ≡ false → Follows ended more false
open_follows ended more going = subst (λ e. Follows e more false) (sym going) tt

module _ (may : SourceState → SinkState → Type 0) where
  -- where less than a line stands first, no command is whole
  pub line_asked : (s : Stream) (o : Outgoing) → MayAwait may s o (λ bytes. next false bytes ≡ Waits)
      → MayAwait may s o (λ bytes. lines.first false bytes ≡ lines.Partial)
  line_asked s o asked = λ p emptied source got going consumed failures partial. asked p emptied source got going consumed failures (ap (next_of false) partial)

  -- a line came first, and what it asks for is not whole
  pub behind_asked : (s t : Stream) (o p : Outgoing) (line : List ℕ) → Fetched 0 s t (IsLined (Ok lined.Whole) line t.held) → Sent true [] o p
      → MayAwait may s o (λ bytes. next false bytes ≡ Waits) → MayAwait may t p (λ bytes. behind line false bytes ≡ Waits)
  behind_asked s t o p line f sent asked = λ q emptied source got going consumed failures waits.
      let none = f.failures in
      asked q (sent_then true [] [] o p q sent emptied.0, emptied.1) source (f.got ++ got) (open_before s.held.ended t.held.ended f.got f.follows going)
      (consumes_more s.source.remaining t.source.remaining source.remaining f.got got f.consumed consumed)
      (omega arith)
      (ap (next false) (sym (append_assoc s.held.bytes f.got got))
      ∙ (next_behind t.held.ended false (s.held.bytes ++ f.got) got line t.held.bytes f.holds (open_follows t.held.ended got going) ∙ waits))

  -- a body is not whole
  pub body_asked : (s : Stream) (o p : Outgoing) (q : Request) (head : Header) (len : ℕ) (due : Bool) → q ≡ Body head len
      → MayAwait may s o (λ bytes. next_request false q bytes ≡ Waits) → Sent true [] o p → (due ≡ true → p.waits ≡ []) → due ≡ nat_lt (length s.held.bytes) len
      → MayAsk may s p.sink (LacksBytes len)
  body_asked s o p q head len due asks asked sent none missing = λ source got going consumed failures short.
      let l = length-append s.held.bytes got in
      let few : nat_lt (length s.held.bytes) len ≡ true = grind (arith, nat_tests) in
      asked p (sent, none (missing ∙ few)) source got going consumed failures
      (ap (λ r. next_request false r (s.held.bytes ++ got)) asks ∙ cut_short false head len (s.held.bytes ++ got) short)
