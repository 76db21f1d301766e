-- What a crew, the workers who share one seat of the table, does in a step. This project's own.
use Rattle.std.specs.Prelude.{◌≡◌, ℕ, ◌<◌, List, ◌∷◌, length, Option, Some, None}
use Rattle.race_board.specs.declared.worker_state.WorkerState.TheVariants.{Free}
use Rattle.race_board.specs.Race.{Worker, worker, holding, drained, total_of, times_drawn}
use Rattle.race_board.specs.Rule.{acted}

-- the crew's first worker may draw
abbrev pub MayDraw : List Worker → Type 0
MayDraw ws = (n : ℕ) × (d : List (ℕ × ℕ)) × (others : List Worker) × (ws ≡ worker n d Free ∷ others)

-- what a draw answers: a chunk, above all that the crew had drawn, which the first worker holds then; or none, and the first
-- worker was told the end
abbrev pub IsAnswer : List ℕ → List Worker → Option ℕ → List Worker → Type 0
IsAnswer prices ws (Some c) later =
    (c < length prices) × (later ≡ acted (holding c) ws)
    × ((k : ℕ) → 0 < total_of (times_drawn k) ws → k < c)
IsAnswer prices ws None later = later ≡ acted drained ws
