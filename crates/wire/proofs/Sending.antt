-- How what is sent adds up.
use Rattle.std.proofs.Common.{◌≡◌, ◌+◌, ℕ, Bool, true, false, List, [], ◌++◌, sym, ap, ◌∙◌, append_assoc, arith}
use Rattle.std.specs.Io.KnownBytes.{Appends}
use Rattle.wire.specs.Devices.{SinkState}
use Rattle.wire.specs.Prefixes.{IsPrefixOf}
use Rattle.wire.specs.Sending.{Outgoing, Sent, IsWritten}
use Rattle.wire.proofs.Known.{append_nil, appends_nothing, appends_more}

-- one text was said, and then another
both_written : (well : Bool) (due a b first then waits rest : List ℕ) → due ++ a ≡ first ++ waits → IsWritten well (waits ++ b) then rest
    → IsWritten well (due ++ (a ++ b)) (first ++ then) rest
both_written true due a b first then waits rest e w =
    sym (append_assoc due a b) ∙ ap (λ xs. xs ++ b) e ∙ append_assoc first waits b ∙ ap (λ xs. first ++ xs) w ∙ sym (append_assoc first then rest)
both_written false due a b first then waits rest e w =
    (w.0, sym (append_assoc due a b) ∙ ap (λ xs. xs ++ b) e ∙ append_assoc first waits b ∙ ap (λ xs. first ++ xs) w.1 ∙ sym (append_assoc first then w.0))

pub sent_then : (well : Bool) (a b : List ℕ) (o p q : Outgoing) → Sent true a o p → Sent well b p q → Sent well (a ++ b) o q
sent_then well a b o p q s t = record {
  written = s.written ++ t.written;
  appended = appends_more o.sink.contents p.sink.contents q.sink.contents s.written t.written s.appended t.appended;
  is_written = both_written well o.waits a b s.written t.written p.waits q.waits s.is_written t.is_written;
  failures = let x = s.failures in let y = t.failures in omega arith;
}

-- nothing was said
pub sent_nothing : (o : Outgoing) → Sent true [] o o
sent_nothing o = record {
  written = [];
  appended = appends_nothing o.sink.contents;
  is_written = append_nil o.waits;
  failures = omega arith;
}

-- a text was written where nothing waited
pub sent_whole : (text waits : List ℕ) (s t : SinkState) → waits ≡ [] → Appends s.contents t.contents text → t.failures ≡ s.failures
    → Sent true text (record { sink = s; waits = waits }) (record { sink = t; waits = waits })
sent_whole text waits s t none a f = record {
  written = text;
  appended = a;
  is_written = rw none (sym (append_nil text));
  failures = omega (arith, f);
}

pub sent_front : (text waits : List ℕ) (s t : SinkState) → waits ≡ [] → (front : List ℕ) × IsPrefixOf front text × Appends s.contents t.contents front
    → t.failures ≡ s.failures + 1 → Sent false text (record { sink = s; waits = waits }) (record { sink = t; waits = waits })
sent_front text waits s t none h f = record {
  written = h.0;
  appended = h.2;
  is_written = (h.1.0, ap (λ xs. xs ++ text) none ∙ h.1.1);
  failures = f;
}

-- what waited was not written whole, and so a text behind it was not
pub sent_cut : (text : List ℕ) (o p : Outgoing) → Sent false [] o p → Sent false text o p
sent_cut text o p s = record {
  written = s.written;
  appended = s.appended;
  is_written = (s.is_written.0 ++ text, ap (λ xs. xs ++ text) (sym (append_nil o.waits) ∙ s.is_written.1) ∙ append_assoc s.written s.is_written.0 text);
  failures = s.failures;
}
