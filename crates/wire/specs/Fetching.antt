-- How a stream is read on, until what is waited for is there: a line or a body, however the stream is cut into pieces (this
-- project's own).
use Rattle.std.specs.Prelude.{ℕ, ◌≡◌, ◌<◌, ◌≤◌, ◌+◌, ◌*◌, ◌&&◌, ◌||◌, not, Bool, true, false}
use Rattle.std.specs.Prelude.{List, [], ◌++◌, length, take, drop, Result, Ok, Err, OnOk, IfOk}
use Rattle.std.specs.Io.KnownBytes.{Consumes, IsAtEnd}
use Rattle.wire.specs.Devices.{SourceState, SinkState}
use Rattle.wire.specs.InputState.{InputState, Stream}
use Rattle.wire.specs.Lines as lines
use Rattle.wire.specs.declared.fault.ReadFault.{ReadFault}
use Rattle.wire.specs.declared.fault.ReadFault.TheVariants.{Failed, OutOfReads}
use Rattle.wire.specs.declared.fetch.Lined.{Lined}
use Rattle.wire.specs.declared.fetch.Lined.TheVariants.{Whole, Over, Nothing}
use Rattle.wire.specs.declared.fetch.Body.{Body}
use Rattle.wire.specs.declared.fetch.Body.TheVariants as bodies

-- A source may be asked beside this sink wherever it has given some more bytes by reads that went well, the end was not held
-- before, and P holds of all bytes that are then held.
abbrev pub MayAsk : (may_ask : SourceState → SinkState → Type 0) → Stream → SinkState → (P : List ℕ → Type 0) → Type 0
MayAsk may_ask old sink P =
    (source : SourceState) (got : List ℕ) → old.held.ended ≡ false → Consumes old.source.remaining source.remaining got
    → source.failures ≡ old.source.failures → P (old.held.bytes ++ got) → may_ask source sink

-- so many bytes are not there yet
abbrev pub LacksBytes : ℕ → List ℕ → Type 0
LacksBytes len bytes = length bytes < len

-- what may still come where the stream is known to have ended, or not
abbrev pub Follows : Bool → List ℕ → Bool → Type 0
Follows true more ended = (more ≡ []) × (ended ≡ true)
Follows false more ended = Unit {0}

-- how many reads failed: one, where that is why the wanted bytes are not there
abbrev pub failed_reads : {A : Type 0} → Result A ReadFault → ℕ
failed_reads (Ok a) = 0
failed_reads (Err Failed) = 1
failed_reads (Err OutOfReads) = 0

-- The source gave some more bytes, and P holds of all bytes that were then held. The end is held exactly if the source reported it.
pub record Fetched (failed : ℕ) (old new : Stream) (P : List ℕ → Type 0) : Type 0 where
  pub got : List ℕ
  pub consumed : Consumes old.source.remaining new.source.remaining got
  pub follows : Follows old.held.ended got new.held.ended
  pub at_end : (old.held.ended ≡ true → IsAtEnd old.source.remaining) → new.held.ended ≡ true
      → IsAtEnd new.source.remaining
  pub ends : new.source.told_end ≡ (old.source.told_end || (new.held.ended && not old.held.ended))
  pub reads : new.source.reads + new.held.reads_left ≡ old.source.reads + old.held.reads_left
  pub failures : new.source.failures ≡ old.source.failures + failed
  pub holds : P (old.held.bytes ++ got)

-- after one more read all the bytes are held; after a fault no more than before
abbrev pub IsFilled : Result Unit ReadFault → InputState → InputState → List ℕ → Type 0
IsFilled (Ok done) old new bytes = new.bytes ≡ bytes
IsFilled (Err Failed) old new bytes = (new.bytes ≡ bytes) × ((bytes ≡ old.bytes) × (new.ended ≡ old.ended))
IsFilled (Err OutOfReads) old new bytes = (new ≡ old) × ((bytes ≡ old.bytes) × (new.reads_left ≡ 0))

-- After one more read the bytes are those that it put into a buffer, from an index on, and none are held; after a fault there
-- are no more than before.
abbrev pub IsReadBehind : Result ℕ ReadFault → (buffer : List ℕ) (at : ℕ) → InputState → InputState → List ℕ → Type 0
IsReadBehind (Ok n) buffer at old new bytes = (bytes ≡ take n (drop at buffer)) × (new.bytes ≡ [])
IsReadBehind (Err fault) buffer at old new bytes = IsFilled (Err fault) old new bytes

-- a read into a buffer, from an index on, keeps its length and its front, and goes no further than its end
pub record IsPut {E : Type 0} (at : ℕ) (result : Result ℕ E) (old new : List ℕ) : Type 0 where
  pub len : length new ≡ length old
  pub bound : IfOk result (λ n. at + n ≤ length old)
  pub front : take at new ≡ take at old

-- the buffer has space for another byte, and the stream is not known to have ended
abbrev pub MayFill : InputState → Type 0
MayFill held = (length held.bytes < 8192) × (held.ended ≡ false)

-- no more reads are left than before, and fewer after one
abbrev pub IsSpent : {A : Type 0} → Result A ReadFault → InputState → InputState → Type 0
IsSpent result old new = (new.reads_left ≤ old.reads_left) × OnOk result (new.reads_left < old.reads_left)

-- what all the bytes begin with: the line, with the bytes that are left after it; or, after a fault, less than a line
abbrev pub IsLined : Result Lined ReadFault → List ℕ → InputState → List ℕ → Type 0
IsLined (Ok Whole) line new bytes = lines.first new.ended bytes ≡ lines.Line line new.bytes
IsLined (Ok Over) line new bytes = lines.first new.ended bytes ≡ lines.Over
IsLined (Ok Nothing) line new bytes = lines.first new.ended bytes ≡ lines.Nothing
IsLined (Err Failed) line new bytes = lines.first new.ended bytes ≡ lines.Partial
IsLined (Err OutOfReads) line new bytes = (lines.first new.ended bytes ≡ lines.Partial) × (new.reads_left ≡ 0)

-- what all the bytes are: a body of so many bytes and what is left after it; or less than a body
abbrev pub IsBody : ℕ → Result Body ReadFault → InputState → List ℕ → Type 0
IsBody len (Ok (bodies.Whole body)) new bytes = (bytes ≡ body.items ++ new.bytes) × (length body.items ≡ len)
IsBody len (Ok bodies.Dropped) new bytes = (body : List ℕ) × (bytes ≡ body ++ new.bytes) × (length body ≡ len)
IsBody len (Ok bodies.Cut) new bytes = (length bytes < len) × (new.ended ≡ true)
IsBody len (Err Failed) new bytes = (length bytes < len) × (new.ended ≡ false)
IsBody len (Err OutOfReads) new bytes = (length bytes < len) × ((new.ended ≡ false) × (new.reads_left ≡ 0))

-- a bound on what may still be read: each read brings at most 8,192 bytes
abbrev pub reach : InputState → ℕ
reach held = held.reads_left * 8193 + length held.bytes
