-- What was read of a stream and not used yet (this project's own).
use Rattle.std.specs.Prelude.{ℕ, Bool, List}
use Rattle.wire.specs.Devices.{SourceState}

-- the bytes, whether the stream has ended after them, and how many reads are left
pub record InputState : Type 0 where
  pub bytes : List ℕ
  pub ended : Bool
  pub reads_left : ℕ

-- a stream: what its source has left, and what is held of what it gave
pub record Stream : Type 0 where
  pub source : SourceState
  pub held : InputState
