-- What is stored of a body while it arrives (this project's own).
use Rattle.std.specs.Prelude.{ℕ, ◌≡◌, ◌<◌, false, List, [], ◌++◌, length, Result, Ok, Err}
use Rattle.wire.specs.InputState.{InputState}
use Rattle.wire.specs.Fetching.{IsBody}
use Rattle.wire.specs.declared.fault.ReadFault.{ReadFault}
use Rattle.wire.specs.declared.fetch.Body.{Body}
use Rattle.wire.specs.declared.fetch.Body.TheVariants as bodies
use Rattle.wire.specs.declared.fetch.Received.{Received}
use Rattle.wire.specs.declared.fetch.Received.TheVariants.{Whole, Full, Cut}

-- What all the bytes after the first part of a body are: the rest of the body, and what is left after it; or less than that,
-- of which so many are a body's with the first part, and nothing is left.
abbrev pub IsKept : ℕ → List ℕ → Result Received ReadFault → InputState → List ℕ → Type 0
IsKept len first (Ok (Whole body)) new bytes = IsBody len (Ok (bodies.Whole body)) new (first ++ bytes)
IsKept len first (Ok (Full came)) new bytes =
    (length (first ++ bytes) ≡ came) × ((came < len) × ((new.bytes ≡ []) × (new.ended ≡ false)))
IsKept len first (Ok Cut) new bytes = IsBody len (Ok bodies.Cut) new (first ++ bytes)
IsKept len first (Err fault) new bytes = IsBody len (Err fault) new (first ++ bytes)

-- what all the bytes are: a body of so many bytes that was not stored, and what is left after it; or less than a body
abbrev pub IsSkipped : ℕ → Result Body ReadFault → InputState → List ℕ → Type 0
IsSkipped len (Ok (bodies.Whole body)) new bytes = ⊥
IsSkipped len (Ok bodies.Dropped) new bytes = IsBody len (Ok bodies.Dropped) new bytes
IsSkipped len (Ok bodies.Cut) new bytes = IsBody len (Ok bodies.Cut) new bytes
IsSkipped len (Err fault) new bytes = IsBody len (Err fault) new bytes
