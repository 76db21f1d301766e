-- What stands beside specs/Crews.antt for this crate's own modules and proofs.
use Rattle.std.specs.Prelude.{◌≡◌, ℕ, List, ◌∷◌}
use Rattle.race_board.specs.declared.worker_state.WorkerState.TheVariants.{Holds}
use Rattle.race_board.specs.Race.{Worker, worker}
use mathlib.Core.Option.{some}
use lib.ListN.{get_elem?}
use Rattle.atomic_table.specs.Table.{State}
use Rattle.race_board.specs.declared.race_key.RaceKey.{RaceKey}
use Rattle.race_board.specs.inner.Rule.{IsHeld}

-- the crew's first worker holds this chunk
abbrev pub HoldsChunk : ℕ → List Worker → Type 0
HoldsChunk c ws = (n : ℕ) × (d : List (ℕ × ℕ)) × (others : List Worker) × (ws ≡ worker n d (Holds c) ∷ others)

-- how the words were left: some state that meets the rule has this count and these steps, and a seat with just these workers
abbrev pub IsClosedWith : RaceKey → List Worker → ℕ → ℕ → Type 0
IsClosedWith t ws count recorded =
    (s : State ℕ (List Worker)) × (id : ℕ) × (h : IsHeld t s) × (get_elem? s.views id ≡ some ws)
    × (h.count ≡ count) × (h.spent ≡ recorded)

-- the same where no seat is left
abbrev pub IsClosed : RaceKey → ℕ → ℕ → Type 0
IsClosed t count recorded = (s : State ℕ (List Worker)) × (h : IsHeld t s) × (h.count ≡ count) × (h.spent ≡ recorded)
