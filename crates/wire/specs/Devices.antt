-- What contracts see of the devices that bytes come from and go to (this project's own). The bytes are those that `std::io` knows
-- of a reader or a writer; where it knows none (standard streams, sockets), they are unknown. The counts have no last value, and no
-- code sees them.
use Rattle.std.specs.Prelude.{ℕ, ◌≡◌, ◌<◌, ◌+◌, ◌==◌, ◌&&◌, ◌||◌, not, Bool, false, if◌then◌else◌}
use Rattle.std.specs.Prelude.{List, Option, Result, Ok, Err}
use Rattle.std.specs.declared.sync.ledger.Blank.{Blank}

-- A source: the bytes that it has left, how many reads into a buffer there were, how many reads failed, and whether one has
-- reported the end.
pub record SourceState : Type 0 where
  pub remaining : Option (List ℕ)
  pub reads : ℕ
  pub failures : ℕ
  pub told_end : Bool

-- A sink: the bytes that it took, how many writes there were, and how many of them failed.
pub record SinkState : Type 0 where
  pub contents : Option (List ℕ)
  pub writes : ℕ
  pub failures : ℕ

-- A read into an empty buffer is not counted.
abbrev pub reads_in : ℕ → ℕ
reads_in capacity = if capacity == 0 then 0 else 1

-- 1 for a call that failed
abbrev pub failures_in : {A E : Type 0} → Result A E → ℕ
failures_in (Ok a) = 0
failures_in (Err e) = 1

-- a read into a buffer that got nothing means the end
abbrev pub is_end : {E : Type 0} → ℕ → Result ℕ E → Bool
is_end capacity (Ok got) = not (capacity == 0) && (got == 0)
is_end capacity (Err e) = false

-- what a read into so large a buffer adds to the counts, and whether it means the end
pub record IsRead {E : Type 0} (capacity : ℕ) (result : Result ℕ E) (old new : SourceState) : Type 0 where
  pub reads : new.reads ≡ old.reads + reads_in capacity
  pub failures : new.failures ≡ old.failures + failures_in result
  pub ends : new.told_end ≡ (old.told_end || is_end capacity result)

-- 1 for a write that failed, or that took nothing of some bytes
abbrev pub write_failures_in : {E : Type 0} → ℕ → Result ℕ E → ℕ
write_failures_in given (Ok took) = if given == 0 then 0 else (if took == 0 then 1 else 0)
write_failures_in given (Err e) = 1

-- a ledger that nothing was counted by yet, of at least one part, and the name and the parts of the type that names it
abbrev pub IsNewCount : Blank → (name parts : ℕ) → Type 0
IsNewCount blank name parts = (blank.name ≡ name) × (blank.parts ≡ parts) × (0 < blank.parts)
