-- How text is sent to a sink: text waits in a buffer of the caller's until it is written (this project's own).
use Rattle.std.specs.Prelude.{ℕ, ◌≡◌, ◌+◌, Bool, true, false, List, ◌++◌}
use Rattle.std.specs.Io.KnownBytes.{Appends}
use Rattle.wire.specs.Devices.{SinkState}
use Rattle.wire.specs.Prefixes.{IsPrefixOf}

-- a sink, and what was said to it and is not written yet
pub record Outgoing : Type 0 where
  pub sink : SinkState
  pub waits : List ℕ

-- Of all that was to be written this was, and that waits; or, after a write that failed, this is a front part of it.
abbrev pub IsWritten : (well : Bool) → (due written waits : List ℕ) → Type 0
IsWritten true due written waits = due ≡ written ++ waits
IsWritten false due written waits = IsPrefixOf written due

-- one, after a write that failed
abbrev pub failed_writes : (well : Bool) → ℕ
failed_writes true = 0
failed_writes false = 1

-- A text was said: of what waited and the text, in this order, some was written, and the rest waits, where all went well.
pub record Sent (well : Bool) (text : List ℕ) (old new : Outgoing) : Type 0 where
  pub written : List ℕ
  pub appended : Appends old.sink.contents new.sink.contents written
  pub is_written : IsWritten well (old.waits ++ text) written new.waits
  pub failures : new.sink.failures ≡ old.sink.failures + failed_writes well
