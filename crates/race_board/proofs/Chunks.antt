-- Sums over all that the workers recorded, regrouped by chunk.
use Rattle.std.proofs.Common.{◌≡◌, ℕ, zero, suc, ◌+◌, ◌<◌, ◌≤◌, List, [], ◌∷◌, ◌++◌, Some, Bool, true, false, refl, sym, ap, ◌∙◌, arith, append_assoc}
use Rattle.std.specs.Prelude.{All, slice_get, slice_index, nat_lt, ◌==◌, if◌then◌else◌}
use Rattle.std.proofs.lemmas.Bool.Decides.{nat_tests}
use Rattle.std.proofs.lemmas.List.{append-nil}
use Rattle.race_board.specs.declared.worker_state.WorkerState.{WorkerState}
use Rattle.race_board.specs.declared.worker_state.WorkerState.TheVariants.{Free, Holds, Drained, Failed}
use Rattle.race_board.specs.Race.{Worker, total_of, one_if_same, one_if_below, times_completed, times_now, times_drawn, steps_now, steps_of, IsDrained, AreWithin, IsStateWithin, IsWithinPrices}
use Rattle.race_board.specs.Chunks.{times_in, steps_in, AreEachOnce, AreOnceAtMost, StandsOnce, completed_by, recorded_by, failed_chunk, sum_below, CostJust, CostAtMost}
use Rattle.race_board.proofs.Sums.{sum_append}

-- 1. The lists of all workers in one.
pub completed_sum : (g : ℕ × ℕ → ℕ) (ws : List Worker) → total_of g (completed_by ws) ≡ total_of (λ (w : Worker). total_of g w.done) ws
completed_sum g [] = refl
completed_sum g (w ∷ ws) = let a = sum_append g w.done (completed_by ws) in let b = completed_sum g ws in omega arith

pub recorded_sum : (g : ℕ × ℕ → ℕ) (ws : List Worker) → total_of g (recorded_by ws) ≡ total_of (λ (w : Worker). total_of g w.done + total_of g (failed_chunk w.state)) ws
recorded_sum g [] = refl
recorded_sum g (w ∷ ws) =
    let a = sum_append g (w.done ++ failed_chunk w.state) (recorded_by ws) in
    let d = sum_append g w.done (failed_chunk w.state) in
    let b = recorded_sum g ws in
    omega arith

failed_steps : (s : WorkerState) → steps_in (failed_chunk s) ≡ steps_now s
failed_steps Free = refl
failed_steps (Holds c) = refl
failed_steps Drained = refl
failed_steps (Failed c s) = omega arith

pub recorded_steps : (ws : List Worker) → steps_in (recorded_by ws) ≡ total_of steps_of ws
recorded_steps [] = refl
recorded_steps (w ∷ ws) =
    let a = sum_append (λ (d : ℕ × ℕ). d.1) (w.done ++ failed_chunk w.state) (recorded_by ws) in
    let d = sum_append (λ (d : ℕ × ℕ). d.1) w.done (failed_chunk w.state) in
    let f = failed_steps w.state in
    let b = recorded_steps ws in
    omega arith

failed_times : (c : ℕ) (s : WorkerState) → times_in c (failed_chunk s) ≤ times_now c s
failed_times c Free = omega arith
failed_times c (Holds x) = omega arith
failed_times c Drained = omega arith
failed_times c (Failed x s) = omega arith

pub recorded_times : (c : ℕ) (ws : List Worker) → times_in c (recorded_by ws) ≤ total_of (times_drawn c) ws
recorded_times c [] = omega arith
recorded_times c (w ∷ ws) =
    let a = sum_append (λ (d : ℕ × ℕ). one_if_same c d.0) (w.done ++ failed_chunk w.state) (recorded_by ws) in
    let d = sum_append (λ (d : ℕ × ℕ). one_if_same c d.0) w.done (failed_chunk w.state) in
    let f = failed_times c w.state in
    let b = recorded_times c ws in
    omega arith

-- where none failed, what was recorded is what was completed
pub recorded_completed : (ws : List Worker) → All IsDrained ws → recorded_by ws ≡ completed_by ws
recorded_completed [] all = refl
recorded_completed (w ∷ ws) all =
    let told : failed_chunk w.state ≡ [] = ap failed_chunk (all 0 w (omega arith)) in
    let here : w.done ++ failed_chunk w.state ≡ w.done = ap (λ (l : List (ℕ × ℕ)). w.done ++ l) told ∙ append-nil w.done in
    let rest = recorded_completed ws (λ k d l. all (suc k) d (omega arith)) in
    ap (λ (l : List (ℕ × ℕ)). l ++ recorded_by ws) here ∙ ap (λ (l : List (ℕ × ℕ)). w.done ++ l) rest

-- one worker more
pub completed_snoc : (ws : List Worker) (w : Worker) → completed_by (ws ++ w ∷ []) ≡ completed_by ws ++ w.done
completed_snoc [] w = append-nil w.done
completed_snoc (x ∷ xs) w = ap (λ (l : List (ℕ × ℕ)). x.done ++ l) (completed_snoc xs w) ∙ sym (append_assoc x.done (completed_by xs) w.done)

-- 2. A chunk that is counted once stands at one place.
not_there : (c : ℕ) (ds : List (ℕ × ℕ)) → times_in c ds ≡ 0 → (k s : ℕ) → slice_get ds k ≡ Some (c, s) → ⊥
not_there c [] none k s at = cc
not_there c (d ∷ ds) none zero s at =
    let same : d ≡ (c, s) = cc in
    let here : d.0 ≡ c = ap (λ (x : ℕ × ℕ). x.0) same in
    let one : one_if_same c d.0 ≡ 1 = grind (arith, nat_tests) in
    omega arith
not_there c (d ∷ ds) none (suc k) s at = not_there c ds (omega arith) k s at

pub stands_once : (c : ℕ) (ds : List (ℕ × ℕ)) → times_in c ds ≡ 1 → StandsOnce c ds
stands_once c [] once = absurd (omega arith)
stands_once c (d ∷ ds) once = go (d.0 == c) refl (λ less. stands_once c ds less)
  where
    go : (b : Bool) → (d.0 == c) ≡ b → (times_in c ds ≡ 1 → StandsOnce c ds) → StandsOnce c (d ∷ ds)
    go true is later =
        let here : d.0 ≡ c = grind (arith, nat_tests) in
        let one : one_if_same c d.0 ≡ 1 = grind (arith, nat_tests) in
        let none : times_in c ds ≡ 0 = omega arith in
        record { nth = 0; steps = d.1; there = ap (λ (x : ℕ). Some (x, d.1)) here; only = first none }
      where
        first : times_in c ds ≡ 0 → (k s : ℕ) → slice_get (d ∷ ds) k ≡ Some (c, s) → k ≡ 0
        first none zero s at = refl
        first none (suc k) s at = absurd (not_there c ds none k s at)
    go false is later =
        let zero_here : one_if_same c d.0 ≡ 0 = grind (arith, nat_tests) in
        let rest = later (omega arith) in
        record { nth = suc rest.nth; steps = rest.steps; there = rest.there; only = behind rest }
      where
        behind : (rest : StandsOnce c ds) → (k s : ℕ) → slice_get (d ∷ ds) k ≡ Some (c, s) → k ≡ suc rest.nth
        behind rest zero s at =
            let same : d ≡ (c, s) = cc in
            let here : d.0 ≡ c = ap (λ (x : ℕ × ℕ). x.0) same in
            absurd (grind (arith, nat_tests))
        behind rest (suc k) s at = ap suc (rest.only k s at)

-- 3. A sum over a list of chunks is a sum over the chunks below n.
abbrev at_chunk : (ℕ → ℕ) → ℕ → ℕ × ℕ → ℕ
at_chunk g c d = if d.0 == c then g d.0 else 0

abbrev below_chunk : (ℕ → ℕ) → ℕ → ℕ × ℕ → ℕ
below_chunk g n d = if nat_lt d.0 n then g d.0 else 0

one_more : (g : ℕ → ℕ) (n : ℕ) (d : ℕ × ℕ) → below_chunk g (suc n) d ≡ below_chunk g n d + at_chunk g n d
one_more g n d = grind (arith, nat_tests)

none_less : (g : ℕ → ℕ) (d : ℕ × ℕ) → below_chunk g 0 d ≡ 0
none_less g d = grind (arith, nat_tests)

more_chunks : (g : ℕ → ℕ) (n : ℕ) (ds : List (ℕ × ℕ)) → total_of (below_chunk g (suc n)) ds ≡ total_of (below_chunk g n) ds + total_of (at_chunk g n) ds
more_chunks g n [] = refl
more_chunks g n (d ∷ ds) = let a = one_more g n d in let b = more_chunks g n ds in omega arith

no_chunks : (g : ℕ → ℕ) (ds : List (ℕ × ℕ)) → total_of (below_chunk g 0) ds ≡ 0
no_chunks g [] = refl
no_chunks g (d ∷ ds) = let a = none_less g d in let b = no_chunks g ds in omega arith

at_none : (g : ℕ → ℕ) (c : ℕ) (ds : List (ℕ × ℕ)) → times_in c ds ≡ 0 → total_of (at_chunk g c) ds ≡ 0
at_none g c [] none = refl
at_none g c (d ∷ ds) none =
    let rest = at_none g c ds (omega arith) in
    let here : at_chunk g c d ≡ 0 = away g c d (omega arith) in
    omega arith
  where
    away : (g : ℕ → ℕ) (c : ℕ) (d : ℕ × ℕ) → one_if_same c d.0 ≡ 0 → at_chunk g c d ≡ 0
    away g c d e = grind (arith, nat_tests)

at_here : (g : ℕ → ℕ) (c : ℕ) (d : ℕ × ℕ) → (d.0 == c) ≡ true → at_chunk g c d ≡ g c
at_here g c d is = let here : d.0 ≡ c = grind (arith, nat_tests) in rw is (ap g here)

at_away : (g : ℕ → ℕ) (c : ℕ) (d : ℕ × ℕ) → (d.0 == c) ≡ false → at_chunk g c d ≡ 0
at_away g c d is = rw is refl

at_once : (g : ℕ → ℕ) (c : ℕ) (ds : List (ℕ × ℕ)) → times_in c ds ≡ 1 → total_of (at_chunk g c) ds ≡ g c
at_once g c [] once = absurd (omega arith)
at_once g c (d ∷ ds) once = go (d.0 == c) refl (λ less. at_once g c ds less)
  where
    go : (b : Bool) → (d.0 == c) ≡ b → (times_in c ds ≡ 1 → total_of (at_chunk g c) ds ≡ g c) → total_of (at_chunk g c) (d ∷ ds) ≡ g c
    go true is later =
        let one : one_if_same c d.0 ≡ 1 = grind (arith, nat_tests) in
        let rest = at_none g c ds (omega arith) in
        let here = at_here g c d is in
        omega arith
    go false is later =
        let zero_here : one_if_same c d.0 ≡ 0 = grind (arith, nat_tests) in
        let rest = later (omega arith) in
        let here = at_away g c d is in
        omega arith

at_most : (g : ℕ → ℕ) (c : ℕ) (ds : List (ℕ × ℕ)) → times_in c ds ≤ 1 → total_of (at_chunk g c) ds ≤ g c
at_most g c ds most = go (times_in c ds) refl
  where
    go : (n : ℕ) → times_in c ds ≡ n → total_of (at_chunk g c) ds ≤ g c
    go zero e = let a = at_none g c ds e in omega arith
    go (suc zero) e = let a = at_once g c ds e in omega arith
    go (suc (suc n)) e = absurd (omega arith)

pub below_one : (c n : ℕ) → c < n → one_if_below c n ≡ 1
below_one c n l = grind (arith, nat_tests)

below_least : (c n : ℕ) → one_if_below c n ≤ 1
below_least c n = grind (arith, nat_tests)

below_none : (c n : ℕ) → n ≤ c → one_if_below c n ≡ 0
below_none c n l = grind (arith, nat_tests)

each_below : (g : ℕ → ℕ) (n m : ℕ) (ds : List (ℕ × ℕ)) → n ≤ m → AreEachOnce m ds → total_of (below_chunk g n) ds ≡ sum_below g n
each_below g zero m ds l once = no_chunks g ds
each_below g (suc n) m ds l once =
    let a = more_chunks g n ds in
    let b = each_below g n m ds (omega arith) once in
    let c = at_once g n ds (once n ∙ below_one n m (omega arith)) in
    omega arith

most_below : (g : ℕ → ℕ) (n m : ℕ) (ds : List (ℕ × ℕ)) → AreOnceAtMost m ds → total_of (below_chunk g n) ds ≤ sum_below g n
most_below g zero m ds once = let a = no_chunks g ds in omega arith
most_below g (suc n) m ds once =
    let a = more_chunks g n ds in
    let b = most_below g n m ds once in
    let o = once n in
    let e = below_least n m in
    let c = at_most g n ds (omega arith) in
    omega arith

-- no chunk stands there that isn't below n
all_below : (g : ℕ → ℕ) (n : ℕ) (ds : List (ℕ × ℕ)) → ((c : ℕ) → n ≤ c → times_in c ds ≡ 0) → total_of (λ (d : ℕ × ℕ). g d.0) ds ≡ total_of (below_chunk g n) ds
all_below g n [] none = refl
all_below g n (d ∷ ds) none =
    let rest = all_below g n ds (λ c l. let e = none c l in omega arith) in
    let here : below_chunk g n d ≡ g d.0 = inside (nat_lt d.0 n) refl in
    omega arith
  where
    inside : (b : Bool) → nat_lt d.0 n ≡ b → below_chunk g n d ≡ g d.0
    inside true is = rw is refl
    inside false is =
        let above : n ≤ d.0 = grind (arith, nat_tests) in
        let e = none d.0 above in
        let one : one_if_same d.0 d.0 ≡ 1 = grind (arith, nat_tests) in
        absurd (omega arith)

pub each_sum : (g : ℕ → ℕ) (n : ℕ) (ds : List (ℕ × ℕ)) → AreEachOnce n ds → total_of (λ (d : ℕ × ℕ). g d.0) ds ≡ sum_below g n
each_sum g n ds once = all_below g n ds (λ c l. once c ∙ below_none c n l) ∙ each_below g n n ds (omega arith) once

pub most_sum : (g : ℕ → ℕ) (n : ℕ) (ds : List (ℕ × ℕ)) → AreOnceAtMost n ds → total_of (λ (d : ℕ × ℕ). g d.0) ds ≤ sum_below g n
most_sum g n ds once =
    let a = all_below g n ds (λ c l. let o = once c in let e = below_none c n l in omega arith) in
    let b = most_below g n n ds once in
    omega arith

cost_just : (g : ℕ → ℕ) (ds : List (ℕ × ℕ)) → CostJust g ds → steps_in ds ≡ total_of (λ (d : ℕ × ℕ). g d.0) ds
cost_just g [] cost = refl
cost_just g (d ∷ ds) cost = let a = cost.0 in let b = cost_just g ds cost.1 in omega arith

cost_most : (g : ℕ → ℕ) (ds : List (ℕ × ℕ)) → CostAtMost g ds → steps_in ds ≤ total_of (λ (d : ℕ × ℕ). g d.0) ds
cost_most g [] cost = omega arith
cost_most g (d ∷ ds) cost = let a = cost.0 in let b = cost_most g ds cost.1 in omega arith

pub cost_append : (g : ℕ → ℕ) (ds es : List (ℕ × ℕ)) → CostJust g ds → CostJust g es → CostJust g (ds ++ es)
cost_append g [] es c d = d
cost_append g (x ∷ xs) es c d = (c.0, cost_append g xs es c.1 d)

-- what workers recorded within the prices costs at most the prices
most_append : (g : ℕ → ℕ) (ds es : List (ℕ × ℕ)) → CostAtMost g ds → CostAtMost g es → CostAtMost g (ds ++ es)
most_append g [] es c d = d
most_append g (x ∷ xs) es c d = (c.0, most_append g xs es c.1 d)

done_within : (prices : List ℕ) (ds : List (ℕ × ℕ)) → AreWithin prices ds → CostAtMost (slice_index prices) ds
done_within prices [] w = tt
done_within prices (d ∷ ds) w = (w.0, done_within prices ds w.1)

failed_within : (prices : List ℕ) (s : WorkerState) → IsStateWithin prices s → CostAtMost (slice_index prices) (failed_chunk s)
failed_within prices Free w = tt
failed_within prices (Holds c) w = tt
failed_within prices Drained w = tt
failed_within prices (Failed c s) w = (w, tt)

pub recorded_within : (prices : List ℕ) (ws : List Worker) → All (IsWithinPrices prices) ws → CostAtMost (slice_index prices) (recorded_by ws)
recorded_within prices [] all = tt
recorded_within prices (w ∷ ws) all =
    let here = all 0 w (omega arith) in
    let rest = recorded_within prices ws (λ k d l. all (suc k) d (omega arith)) in
    most_append (slice_index prices) (w.done ++ failed_chunk w.state) (recorded_by ws)
    (most_append (slice_index prices) w.done (failed_chunk w.state) (done_within prices w.done here.0) (failed_within prices w.state here.1)) rest

-- 4. The steps of all workers.
pub completed_steps : (g : ℕ → ℕ) (n : ℕ) (ds : List (ℕ × ℕ)) → AreEachOnce n ds → CostJust g ds → steps_in ds ≡ sum_below g n
completed_steps g n ds once cost = cost_just g ds cost ∙ each_sum g n ds once

pub recorded_at_most : (g : ℕ → ℕ) (n : ℕ) (ds : List (ℕ × ℕ)) → AreOnceAtMost n ds → CostAtMost g ds → steps_in ds ≤ sum_below g n
recorded_at_most g n ds once cost = let a = cost_most g ds cost in let b = most_sum g n ds once in omega arith

-- what the workers of a closed board completed, where none failed, is each chunk once
pub closed_completed : (n : ℕ) (ws : List Worker) → ((c : ℕ) → total_of (times_completed c) ws ≡ one_if_below c n) → AreEachOnce n (completed_by ws)
closed_completed n ws each c = completed_sum (λ (d : ℕ × ℕ). one_if_same c d.0) ws ∙ each c

-- what they recorded is each chunk at most once
pub closed_recorded : (n : ℕ) (ws : List Worker) → ((c : ℕ) → total_of (times_drawn c) ws ≤ one_if_below c n) → AreOnceAtMost n (recorded_by ws)
closed_recorded n ws once c = let a = recorded_times c ws in let b = once c in omega arith
