-- What an event makes of a race, where its worker stands at the place of its number and may do so.
use Rattle.std.proofs.Common.{◌≡◌, ℕ, ◌+◌, ◌<◌, ◌≤◌, List, length, Some, Bool, true, false, ap, ◌∙◌, arith}
use Rattle.std.specs.Prelude.{slice_get, slice_set, slice_index, nat_lt, nat_le, ◌==◌, ◌&&◌, if◌then◌else◌}
use Rattle.std.proofs.lemmas.Bool.Decides.{nat_tests}
use Rattle.race_board.specs.declared.worker_state.WorkerState.{WorkerState}
use Rattle.race_board.specs.declared.worker_state.WorkerState.TheVariants.{Free, Holds, Drained}
use Rattle.race_board.specs.declared.event.RaceEvent.TheVariants.{Draw, Complete, Fail}
use Rattle.race_board.specs.Race.{Worker, worker, RaceState, race, drawn, holding, drained, completed, failed, may_draw, may_record, draw_by, record_by, after_event}

pub draw_event : (r : RaceState) (w : Worker) → slice_get r.workers w.number ≡ Some w → w.state ≡ Free → after_event r (Draw w.number) ≡ race r.prices (r.count + 1) (slice_set r.workers w.number (drawn r.prices r.count w))
draw_event r w at free =
    ap (draw_by r w.number) at ∙ ap (λ (s : WorkerState). if may_draw s then race r.prices (r.count + 1) (slice_set r.workers w.number (drawn r.prices r.count w)) else r) free

pub drawn_chunk : (prices : List ℕ) (found : ℕ) (w : Worker) → found < length prices → drawn prices found w ≡ holding found w
drawn_chunk prices found w l = let is : nat_lt found (length prices) ≡ true = grind (arith, nat_tests) in ap (λ (b : Bool). worker w.number w.done (if b then Holds found else Drained)) is

pub drawn_end : (prices : List ℕ) (found : ℕ) (w : Worker) → length prices ≤ found → drawn prices found w ≡ drained w
drawn_end prices found w l = let is : nat_lt found (length prices) ≡ false = grind (arith, nat_tests) in ap (λ (b : Bool). worker w.number w.done (if b then Holds found else Drained)) is

may : (prices : List ℕ) (c s : ℕ) → s ≤ slice_index prices c → (c == c) && nat_le s (slice_index prices c) ≡ true
may prices c s l = grind (arith, nat_tests)

recorded : (r : RaceState) (w : Worker) (c s : ℕ) (change : Worker → Worker) → slice_get r.workers w.number ≡ Some w → w.state ≡ Holds c → s ≤ slice_index r.prices c
    → record_by r w.number c s change (slice_get r.workers w.number) ≡ race r.prices r.count (slice_set r.workers w.number (change w))
recorded r w c s change at holds l =
    let next : RaceState = race r.prices r.count (slice_set r.workers w.number (change w)) in
    ap (record_by r w.number c s change) at
    ∙ (ap (λ (st : WorkerState). if may_record r.prices c s st then next else r) holds ∙ ap (λ (b : Bool). if b then next else r) (may r.prices c s l))

pub complete_event : (r : RaceState) (w : Worker) (c s : ℕ) → slice_get r.workers w.number ≡ Some w → w.state ≡ Holds c → s ≤ slice_index r.prices c
    → after_event r (Complete w.number c s) ≡ race r.prices r.count (slice_set r.workers w.number (completed c s w))
complete_event r w c s = recorded r w c s (completed c s)

pub fail_event : (r : RaceState) (w : Worker) (c s : ℕ) → slice_get r.workers w.number ≡ Some w → w.state ≡ Holds c → s ≤ slice_index r.prices c
    → after_event r (Fail w.number c s) ≡ race r.prices r.count (slice_set r.workers w.number (failed c s w))
fail_event r w c s = recorded r w c s (failed c s)
