-- What is heard of a line and of a command with a body, or that it isn't there.
use Rattle.std.proofs.Common.{◌≡◌, ◌<◌, ℕ, Bool, true, false, if◌then◌else◌, List, [], ◌++◌, length, take, drop, Ok, Err, refl, sym, ap, ◌∙◌, subst, arith, length-append}
use Rattle.std.proofs.lemmas.Bool.Decides.{nat_tests}
use Rattle.std.proofs.lemmas.List.{take-append-le, take_all}
use Rattle.std.proofs.lemmas.Bool.{le-ltb}
use Rattle.std.proofs.Math.Seq.{drop-append_seam}
use Rattle.std.specs.Prelude.{nat_lt}
use Rattle.command_text.specs.Requests.{Header, with_body}
use Rattle.command_text.specs.Requests.{Request, Body}
use Rattle.command_text.specs.Readings.{header_of}
use Rattle.command_text.specs.declared.rules.FatalRule.TheVariants.{InputEndsInBody}
use Rattle.command_text.specs.declared.request.Header.{Header as AskedHeader}
use Rattle.wire.specs.Devices.{SourceState}
use Rattle.wire.specs.InputState.{InputState, Stream}
use Rattle.wire.specs.Fetching.{Fetched, IsBody, IsLined, failed_reads}
use Rattle.wire.specs.Sending.{Outgoing, Sent}
use Rattle.wire.specs.declared.fetch.Body.{Body as CameBody}
use Rattle.wire.specs.declared.fetch.Body.TheVariants as bodies
use Rattle.wire.specs.declared.fetch.Lined.{Lined}
use Rattle.wire.specs.declared.fault.ReadFault.{ReadFault}
use Rattle.wire.specs.declared.fault.ReadFault.TheVariants.{Failed, OutOfReads}
use Rattle.wire.proofs.Fetching.{fetched_map}
use Rattle.session.specs.NextCommand.{NextCommand, Goes, Waits, refused, next_body, next_request}
use Rattle.session.specs.inner.Exchange.{Receives, Awaited, IsReceivedOf, IsLineOf, IsEmptied, LacksBody, LacksLine}
use Rattle.session.specs.declared.end.ServeFault.{ServeFault}
use Rattle.session.specs.declared.end.ServeFault.TheVariants.{Read, Turns}
use Rattle.session.specs.declared.receiving.Received.{Received}
use Rattle.session.specs.declared.receiving.Received.TheVariants as h

-- the fault of a session that could not read on
abbrev pub IsFaultOf : ReadFault → ServeFault → Type 0
IsFaultOf fault result = (fault ≡ Failed → result ≡ Read) × (fault ≡ OutOfReads → result ≡ Turns)

-- the body is there, and what is left behind it
pub body_there : (ended : Bool) (head : Header) (len : ℕ) (bytes body rest : List ℕ) → bytes ≡ body ++ rest → length body ≡ len → next_body ended head len bytes ≡ Goes (with_body head body) rest
body_there ended head len bytes body rest e n =
    let long : nat_lt (length bytes) len ≡ false = le-ltb (length bytes) len (omega (arith, ap length e, length-append body rest)) in
    let front : take len bytes ≡ body = ap (take len) e ∙ (ap (λ k. take k (body ++ rest)) (sym n) ∙ (take-append-le (length body) body rest (omega arith) ∙ take_all (length body) body (omega arith))) in
    let back : drop len bytes ≡ rest = ap (drop len) e ∙ (ap (λ k. drop k (body ++ rest)) (sym n) ∙ drop-append_seam body rest) in
    rw (long, front, back) refl

-- less than a body is there
pub cut_short : (ended : Bool) (head : Header) (len : ℕ) (bytes : List ℕ) → length bytes < len
    → next_body ended head len bytes ≡ (if ended then refused InputEndsInBody else Waits)
cut_short ended head len bytes short =
    let few : nat_lt (length bytes) len ≡ true = grind (arith, nat_tests) in
    ap (λ b. if b then (if ended then refused InputEndsInBody else Waits) else Goes (with_body head (take len bytes)) (drop len bytes)) few

module _ (q : Request) (head : Header) (len : ℕ) (asks : q ≡ Body head len) (new : InputState) where
  asked : (bytes : List ℕ) (is : NextCommand) → next_body new.ended head len bytes ≡ is → next_request new.ended q bytes ≡ is
  asked bytes is e = ap (λ r. next_request new.ended r bytes) asks ∙ e

  -- the body came
  pub body_whole : (h0 : AskedHeader) (body : _) (bytes : List ℕ) → head ≡ header_of h0 → IsBody len (Ok (bodies.Whole body)) new bytes
      → Receives (h.Whole h0 body) new.bytes (next_request new.ended q bytes)
  body_whole h0 body bytes e b =
      asked bytes (Goes (with_body (header_of h0) body.items) new.bytes)
      (body_there new.ended head len bytes body.items new.bytes b.0 b.1 ∙ ap (λ x. Goes (with_body x body.items) new.bytes) e)

  -- it was dropped
  pub body_dropped : (h0 : AskedHeader) (bytes : List ℕ) → head ≡ header_of h0 → IsBody len (Ok bodies.Dropped) new bytes
      → Receives (h.Dropped h0) new.bytes (next_request new.ended q bytes)
  body_dropped h0 bytes e b = (
    b.0,
    asked bytes (Goes (with_body (header_of h0) b.0) new.bytes)
        (body_there new.ended head len bytes b.0 new.bytes b.1 b.2 ∙ ap (λ x. Goes (with_body x b.0) new.bytes) e),
  )

  -- the input ended in it
  pub body_cut : (bytes : List ℕ) → IsBody len (Ok bodies.Cut) new bytes → Receives (h.Stopped InputEndsInBody) new.bytes (next_request new.ended q bytes)
  body_cut bytes b =
      asked bytes (refused InputEndsInBody)
      (cut_short new.ended head len bytes b.0 ∙ ap (λ d. if d then refused InputEndsInBody else Waits) b.1)

  lacks : (bytes : List ℕ) → length bytes < len → new.ended ≡ false → LacksBody q new bytes
  lacks bytes short going = asked bytes Waits (cut_short new.ended head len bytes short ∙ ap (λ d. if d then refused InputEndsInBody else Waits) going)

  -- it isn't there: then more input was asked for, and so what waited was written
  pub body_missing : (fault : ReadFault) (result : ServeFault) (s : Stream) (a : SourceState) (o p : Outgoing) (due : Bool)
      → IsFaultOf fault result → Fetched (failed_reads {A = CameBody} (Err fault)) s (record { source = a; held = new }) (IsBody len (Err fault) new)
      → Sent true [] o p → (due ≡ true → p.waits ≡ []) → due ≡ nat_lt (length s.held.bytes) len
      → Awaited {A = Received} (Err result) (IsReceivedOf q new) (LacksBody q new) s (record { source = a; held = new }) o p
  body_missing fault result s a o p due is f sent none e = by fault is f
    where
      emptied : (got : List ℕ) → length (s.held.bytes ++ got) < len → IsEmptied o p
      emptied got short =
          let l = length-append s.held.bytes got in
          let few : nat_lt (length s.held.bytes) len ≡ true = grind (arith, nat_tests) in
          (sent, none (e ∙ few))

      by : (fault : ReadFault) → IsFaultOf fault result → Fetched (failed_reads {A = CameBody} (Err fault)) s (record { source = a; held = new }) (IsBody len (Err fault) new)
          → Awaited {A = Received} (Err result) (IsReceivedOf q new) (LacksBody q new) s (record { source = a; held = new }) o p
      by Failed is f =
          subst (λ (r : ServeFault). Awaited {A = Received} (Err r) (IsReceivedOf q new) (LacksBody q new) s (record { source = a; held = new }) o p) (sym (is.0 refl))
          (fetched_map 1 s (record { source = a; held = new }) (IsBody len (Err Failed) new) (LacksBody q new) f (λ bytes b. lacks bytes b.0 b.1), emptied f.got f.holds.0)
      by OutOfReads is f =
          subst (λ (r : ServeFault). Awaited {A = Received} (Err r) (IsReceivedOf q new) (LacksBody q new) s (record { source = a; held = new }) o p) (sym (is.1 refl))
          (fetched_map 0 s (record { source = a; held = new }) (IsBody len (Err OutOfReads) new) (LacksBody q new) f (λ bytes b. lacks bytes b.0 b.1.0), f.holds.1.1, emptied f.got f.holds.0)

-- the line isn't there
pub line_missing : (fault : ReadFault) (result : ServeFault) (line : List ℕ) (s t : Stream) (o p : Outgoing) → IsFaultOf fault result
    → Fetched (failed_reads {A = Lined} (Err fault)) s t (IsLined (Err fault) line t.held) → IsEmptied o p
    → Awaited {A = Lined} (Err result) (IsLineOf line t.held) (LacksLine t.held) s t o p
line_missing Failed result line s t o p is f e =
    subst (λ (r : ServeFault). Awaited {A = Lined} (Err r) (IsLineOf line t.held) (LacksLine t.held) s t o p) (sym (is.0 refl)) (f, e)
line_missing OutOfReads result line s t o p is f e =
    subst (λ (r : ServeFault). Awaited {A = Lined} (Err r) (IsLineOf line t.held) (LacksLine t.held) s t o p) (sym (is.1 refl))
    (fetched_map 0 s t (IsLined (Err OutOfReads) line t.held) (LacksLine t.held) f (λ bytes w. w.0), f.holds.1, e)
