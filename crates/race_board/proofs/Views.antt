-- What a step does to the sums of a seat.
use Rattle.std.proofs.Common.{◌≡◌, ℕ, ◌+◌, ◌<◌, ◌≤◌, List, [], ◌∷◌, length, Bool, true, false, refl, sym, ap, ◌∙◌, subst, arith}
use Rattle.std.specs.Prelude.{nat_lt, if◌then◌else◌}
use Rattle.std.proofs.lemmas.Bool.Decides.{nat_tests}
use Rattle.race_board.specs.declared.worker_state.WorkerState.TheVariants.{Free, Holds, Drained}
use Rattle.race_board.specs.Race.{Worker, worker, drawn, holding, drained, completed, failed, total_of, one_if_below, draws_of, steps_of}
use Rattle.race_board.specs.Rule.{acted}
use Rattle.race_board.specs.inner.Rule.{completes, fails}
use Rattle.race_board.specs.Crews.{MayDraw}
use Rattle.race_board.specs.inner.Crews.{HoldsChunk}
use Rattle.race_board.proofs.Sums.{sum_append}

pub draw_draws : (prices : List ℕ) (found : ℕ) (v : List Worker) → MayDraw v → total_of draws_of (acted (drawn prices found) v) ≡ total_of draws_of v + one_if_below found (length prices)
draw_draws prices found v free = subst (λ (u : List Worker). total_of draws_of (acted (drawn prices found) u) ≡ total_of draws_of u + one_if_below found (length prices)) (sym free.3) (go (nat_lt found (length prices)))
  where
    go : (b : Bool) → total_of draws_of (worker free.0 free.1 (if b then Holds found else Drained) ∷ free.2) ≡ total_of draws_of (worker free.0 free.1 Free ∷ free.2) + (if b then 1 else 0)
    go true = omega arith
    go false = omega arith

pub draw_steps : (prices : List ℕ) (found : ℕ) (v : List Worker) → MayDraw v → total_of steps_of (acted (drawn prices found) v) ≡ total_of steps_of v
draw_steps prices found v free = subst (λ (u : List Worker). total_of steps_of (acted (drawn prices found) u) ≡ total_of steps_of u) (sym free.3) (go (nat_lt found (length prices)))
  where
    go : (b : Bool) → total_of steps_of (worker free.0 free.1 (if b then Holds found else Drained) ∷ free.2) ≡ total_of steps_of (worker free.0 free.1 Free ∷ free.2)
    go true = refl
    go false = refl

pub drawn_below : (prices : List ℕ) (found : ℕ) (v : List Worker) → found < length prices → acted (drawn prices found) v ≡ acted (holding found) v
drawn_below prices found [] l = refl
drawn_below prices found (w ∷ ws) l = let b : nat_lt found (length prices) ≡ true = grind (arith, nat_tests) in ap (λ (t : Bool). worker w.number w.done (if t then Holds found else Drained) ∷ ws) b

pub drawn_past : (prices : List ℕ) (found : ℕ) (v : List Worker) → length prices ≤ found → acted (drawn prices found) v ≡ acted drained v
drawn_past prices found [] l = refl
drawn_past prices found (w ∷ ws) l = let b : nat_lt found (length prices) ≡ false = grind (arith, nat_tests) in ap (λ (t : Bool). worker w.number w.done (if t then Holds found else Drained) ∷ ws) b

pub completes_chunk : (c s : ℕ) (v : List Worker) → HoldsChunk c v → acted (completes s) v ≡ acted (completed c s) v
completes_chunk c s v h = ap (acted (completes s)) h.3 ∙ ap (acted (completed c s)) (sym h.3)

pub fails_chunk : (c s : ℕ) (v : List Worker) → HoldsChunk c v → acted (fails s) v ≡ acted (failed c s) v
fails_chunk c s v h = ap (acted (fails s)) h.3 ∙ ap (acted (failed c s)) (sym h.3)

pub complete_draws : (c s : ℕ) (v : List Worker) → HoldsChunk c v → total_of draws_of (acted (completed c s) v) ≡ total_of draws_of v
complete_draws c s v h = subst (λ (u : List Worker). total_of draws_of (acted (completed c s) u) ≡ total_of draws_of u) (sym h.3) (let e = sum_append (λ (x : ℕ × ℕ). 1) h.1 ((c, s) ∷ []) in omega arith)

pub complete_steps : (c s : ℕ) (v : List Worker) → HoldsChunk c v → total_of steps_of (acted (completed c s) v) ≡ total_of steps_of v + s
complete_steps c s v h = subst (λ (u : List Worker). total_of steps_of (acted (completed c s) u) ≡ total_of steps_of u + s) (sym h.3) (let e = sum_append (λ (x : ℕ × ℕ). x.1) h.1 ((c, s) ∷ []) in omega arith)

pub fail_draws : (c s : ℕ) (v : List Worker) → HoldsChunk c v → total_of draws_of (acted (failed c s) v) ≡ total_of draws_of v
fail_draws c s v h = subst (λ (u : List Worker). total_of draws_of (acted (failed c s) u) ≡ total_of draws_of u) (sym h.3) refl

pub fail_steps : (c s : ℕ) (v : List Worker) → HoldsChunk c v → total_of steps_of (acted (failed c s) v) ≡ total_of steps_of v + s
fail_steps c s v h = subst (λ (u : List Worker). total_of steps_of (acted (failed c s) u) ≡ total_of steps_of u + s) (sym h.3) (omega arith)
