-- Definitions beside specs/InputState.antt for this crate's own modules and proofs.
use Rattle.std.specs.Prelude.{ℕ, ◌≡◌, ◌+◌, ◌++◌, ◌&&◌, ◌||◌, not, Bool, true, List, [], ◌∷◌}
use Rattle.std.specs.Prelude.{Result, Ok, Err}
use Rattle.std.specs.Io.KnownBytes.{Consumes, Keeps, IsAtEnd}
use Rattle.wire.specs.Devices.{failures_in}
use Rattle.wire.specs.InputState.{Stream}

-- Whether a stream has ended after a read that got these bytes: a read that gets none means the end.
abbrev pub ended_after : Bool → List ℕ → Bool
ended_after ended [] = true
ended_after ended (b ∷ bs) = ended

-- One read of an open stream: the bytes that it got are held after the others, or it failed, and what is held stays.
abbrev pub IsGot : {E : Type 0} → Result (Unit {0}) E → Stream → Stream → Type 0
IsGot (Ok done) old new =
    (got : List ℕ) × Consumes old.source.remaining new.source.remaining got × (new.held.bytes ≡ old.held.bytes ++ got)
    × (new.held.ended ≡ ended_after old.held.ended got) × (got ≡ [] → IsAtEnd new.source.remaining)
IsGot (Err failed) old new = (new.held ≡ old.held) × Keeps old.source.remaining new.source.remaining

-- what one read adds to the counts, and that it takes nothing of what else may be read
pub record IsCounted {A E : Type 0} (result : Result A E) (old new : Stream) : Type 0 where
  pub reads : new.source.reads ≡ old.source.reads + 1
  pub failures : new.source.failures ≡ old.source.failures + failures_in result
  pub ends : new.source.told_end ≡ (old.source.told_end || (new.held.ended && not old.held.ended))
  pub left : new.held.reads_left ≡ old.held.reads_left
