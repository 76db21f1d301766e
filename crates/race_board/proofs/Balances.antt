-- Each event keeps the balance, wherever the workers' records are kept; and what is sound stays sound.
use Rattle.std.proofs.Common.{◌≡◌, ℕ, zero, suc, ◌+◌, ◌<◌, ◌≤◌, List, [], ◌∷◌, ◌++◌, length, set, Some, Bool, true, false, refl, subst, arith, ◌∙◌}
use Rattle.std.specs.Prelude.{slice_index, slice_get, nat_lt, min, if◌then◌else◌}
use Rattle.std.proofs.lemmas.Bool.Decides.{nat_tests}
use Rattle.race_board.specs.declared.worker_state.WorkerState.{WorkerState}
use Rattle.race_board.specs.declared.worker_state.WorkerState.TheVariants.{Free, Holds, Drained, Failed}
use Rattle.race_board.specs.Race.{Worker, worker, drawn, one_if_same, one_if_below, times_drawn, draws_of, steps_of, AreWithin, ends_of, ends_now}
use Rattle.race_board.specs.inner.Balance.{held_price, IsBalanced, IsTrueState, IsSound, AllSound}
use Rattle.race_board.proofs.Sums.{sum_append, prices_more, prices_whole}

-- one worker is replaced by another
abbrev pub Moves : ((Worker → ℕ) → ℕ) → ((Worker → ℕ) → ℕ) → Worker → Worker → Type 0
Moves weigh later old new = (f : Worker → ℕ) → later f + f old ≡ weigh f + f new

below_taken : (n c len : ℕ) → n < len → one_if_below c (min (n + 1) len) ≡ one_if_below c (min n len) + one_if_same c n
below_taken n c len l = grind (arith, nat_tests)

below_past : (n c len : ℕ) → len ≤ n → one_if_below c (min (n + 1) len) ≡ one_if_below c (min n len)
below_past n c len l = grind (arith, nat_tests)

pub draw_balanced : (prices : List ℕ) (count spent n : ℕ) (d : List (ℕ × ℕ)) (weigh later : (Worker → ℕ) → ℕ) → Moves weigh later (worker n d Free) (drawn prices count (worker n d Free))
    → IsBalanced prices count spent weigh → IsBalanced prices (count + 1) spent later
draw_balanced prices count spent n d weigh later m h = go (nat_lt count (length prices)) refl m
  where
    go : (b : Bool) → nat_lt count (length prices) ≡ b → Moves weigh later (worker n d Free) (worker n d (if b then Holds count else Drained)) → IsBalanced prices (count + 1) spent later
    go true is mv =
        let low : count < length prices = grind (arith, nat_tests) in
        let pm = prices_more prices count low in
        let m1 = mv draws_of in
        let m2 = mv ends_of in
        let m3 = mv steps_of in
        let m4 = mv (held_price prices) in
        let h1 = h.draws in
        let h2 = h.counted in
        let h3 = h.steps in
        let h4 = h.capacity in
        record {
          drawn = λ c. let a = mv (times_drawn c) in let b = h.drawn c in let e = below_taken count c (length prices) low in omega arith;
          draws = omega arith;
          counted = omega arith;
          steps = omega arith;
          capacity = omega arith;
        }
    go false is mv =
        let high : length prices ≤ count = grind (arith, nat_tests) in
        let pm = prices_whole prices count high in
        let m1 = mv draws_of in
        let m2 = mv ends_of in
        let m3 = mv steps_of in
        let m4 = mv (held_price prices) in
        let h1 = h.draws in
        let h2 = h.counted in
        let h3 = h.steps in
        let h4 = h.capacity in
        record {
          drawn = λ c. let a = mv (times_drawn c) in let b = h.drawn c in let e = below_past count c (length prices) high in omega arith;
          draws = omega arith;
          counted = omega arith;
          steps = omega arith;
          capacity = omega arith;
        }

-- a worker that gives up the chunk that it held, with these steps
gives_up : (prices : List ℕ) (count spent s c : ℕ) (weigh later : (Worker → ℕ) → ℕ) (old new : Worker) → Moves weigh later old new → s ≤ slice_index prices c
    → ((k : ℕ) → times_drawn k new ≡ times_drawn k old) → draws_of new ≡ draws_of old → ends_of new ≡ ends_of old → steps_of new ≡ steps_of old + s → held_price prices old ≡ slice_index prices c → held_price prices new ≡ 0
    → IsBalanced prices count spent weigh → IsBalanced prices count (spent + s) later
gives_up prices count spent s c weigh later old new mv le same d e st ho hn h =
    let m1 = mv draws_of in
    let m2 = mv ends_of in
    let m3 = mv steps_of in
    let m4 = mv (held_price prices) in
    let h1 = h.draws in
    let h2 = h.counted in
    let h3 = h.steps in
    let h4 = h.capacity in
    record {
      drawn = λ k. let a = mv (times_drawn k) in let b = h.drawn k in let x = same k in omega arith;
      draws = omega arith;
      counted = omega arith;
      steps = omega arith;
      capacity = omega arith;
    }

pub complete_balanced : (prices : List ℕ) (count spent n s c : ℕ) (d : List (ℕ × ℕ)) (weigh later : (Worker → ℕ) → ℕ) → Moves weigh later (worker n d (Holds c)) (worker n (d ++ (c, s) ∷ []) Free) → s ≤ slice_index prices c
    → IsBalanced prices count spent weigh → IsBalanced prices count (spent + s) later
complete_balanced prices count spent n s c d weigh later mv le h =
    gives_up prices count spent s c weigh later (worker n d (Holds c)) (worker n (d ++ (c, s) ∷ []) Free) mv le
    (λ k. let e = sum_append (λ (x : ℕ × ℕ). one_if_same k x.0) d ((c, s) ∷ []) in omega arith)
    (let e = sum_append (λ (x : ℕ × ℕ). 1) d ((c, s) ∷ []) in omega arith)
    refl
    (let e = sum_append (λ (x : ℕ × ℕ). x.1) d ((c, s) ∷ []) in omega arith)
    refl refl h

pub fail_balanced : (prices : List ℕ) (count spent n s c : ℕ) (d : List (ℕ × ℕ)) (weigh later : (Worker → ℕ) → ℕ) → Moves weigh later (worker n d (Holds c)) (worker n d (Failed c s)) → s ≤ slice_index prices c
    → IsBalanced prices count spent weigh → IsBalanced prices count (spent + s) later
fail_balanced prices count spent n s c d weigh later mv le h =
    gives_up prices count spent s c weigh later (worker n d (Holds c)) (worker n d (Failed c s)) mv le (λ k. refl) refl refl (omega arith) refl refl h

-- the balance is of the sums alone
pub balanced_same : (prices : List ℕ) (count spent : ℕ) (weigh later : (Worker → ℕ) → ℕ) → ((f : Worker → ℕ) → later f ≡ weigh f) → IsBalanced prices count spent weigh → IsBalanced prices count spent later
balanced_same prices count spent weigh later same h = record {
  drawn = λ c. same (times_drawn c) ∙ h.drawn c;
  draws = same draws_of ∙ h.draws;
  counted = let a = same draws_of in let b = same ends_of in let c = h.counted in omega arith;
  steps = same steps_of ∙ h.steps;
  capacity = let a = same (held_price prices) in let c = h.capacity in omega arith;
}

-- the sound stay sound as the count grows
sound_more : (prices : List ℕ) (count : ℕ) (w : Worker) → IsSound prices count w → IsSound prices (count + 1) w
sound_more prices count w s = (s.0, more w.state s.1)
  where
    more : (st : WorkerState) → IsTrueState prices count st → IsTrueState prices (count + 1) st
    more Free k = tt
    more (Holds x) k = k
    more Drained k = omega arith
    more (Failed x y) k = tt

pub all_sound_more : (prices : List ℕ) (count : ℕ) (ws : List Worker) → AllSound prices count ws → AllSound prices (count + 1) ws
all_sound_more prices count [] s = tt
all_sound_more prices count (w ∷ ws) s = (sound_more prices count w s.0, all_sound_more prices count ws s.1)

within_snoc : (prices : List ℕ) (d : List (ℕ × ℕ)) (c s : ℕ) → AreWithin prices d → s ≤ slice_index prices c → AreWithin prices (d ++ (c, s) ∷ [])
within_snoc prices [] c s h le = (le, tt)
within_snoc prices (x ∷ xs) c s h le = (h.0, within_snoc prices xs c s h.1 le)

pub drawn_sound : (prices : List ℕ) (count n : ℕ) (d : List (ℕ × ℕ)) → IsSound prices count (worker n d Free) → IsSound prices (count + 1) (drawn prices count (worker n d Free))
drawn_sound prices count n d h = go (nat_lt count (length prices)) refl
  where
    go : (b : Bool) → nat_lt count (length prices) ≡ b → IsSound prices (count + 1) (worker n d (if b then Holds count else Drained))
    go true is = ((h.0.0, tt), grind (arith, nat_tests))
    go false is = let l : length prices ≤ count = grind (arith, nat_tests) in ((h.0.0, tt), omega arith)

pub completed_sound : (prices : List ℕ) (count n c s : ℕ) (d : List (ℕ × ℕ)) → IsSound prices count (worker n d (Holds c)) → s ≤ slice_index prices c → IsSound prices count (worker n (d ++ (c, s) ∷ []) Free)
completed_sound prices count n c s d h le = ((within_snoc prices d c s h.0.0 le, tt), tt)

pub failed_sound : (prices : List ℕ) (count n c s : ℕ) (d : List (ℕ × ℕ)) → IsSound prices count (worker n d (Holds c)) → s ≤ slice_index prices c → IsSound prices count (worker n d (Failed c s))
failed_sound prices count n c s d h le = ((h.0.0, le), tt)

pub sound_at : (prices : List ℕ) (count : ℕ) (ws : List Worker) (i : ℕ) (w : Worker) → AllSound prices count ws → slice_get ws i ≡ Some w → IsSound prices count w
sound_at prices count [] i w h e = absurd (cc)
sound_at prices count (x ∷ xs) zero w h e = let same : x ≡ w = cc in subst (IsSound prices count) same h.0
sound_at prices count (x ∷ xs) (suc i) w h e = sound_at prices count xs i w h.1 e

pub sound_set : (prices : List ℕ) (count : ℕ) (ws : List Worker) (i : ℕ) (w : Worker) → AllSound prices count ws → IsSound prices count w → AllSound prices count (set ws i w)
sound_set prices count [] i w h s = tt
sound_set prices count (x ∷ xs) zero w h s = (s, h.1)
sound_set prices count (x ∷ xs) (suc i) w h s = (h.0, sound_set prices count xs i w h.1 s)

pub sound_append : (prices : List ℕ) (count : ℕ) (xs ys : List Worker) → AllSound prices count xs → AllSound prices count ys → AllSound prices count (xs ++ ys)
sound_append prices count [] ys a b = b
sound_append prices count (x ∷ xs) ys a b = (a.0, sound_append prices count xs ys a.1 b)

pub ends_one : (w : Worker) → ends_of w ≤ 1
ends_one w = go w.state
  where
    go : (s : WorkerState) → ends_now s ≤ 1
    go Free = omega arith
    go (Holds x) = omega arith
    go Drained = omega arith
    go (Failed x s) = omega arith
