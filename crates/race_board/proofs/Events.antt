-- Each event keeps a race a run.
use Rattle.std.proofs.Common.{◌≡◌, ℕ, zero, suc, ◌+◌, ◌^◌, ◌≤◌, List, [], ◌∷◌, ◌++◌, length, set, Option, Some, None, Bool, true, false, refl, sym, ap, ◌∙◌, subst, arith, fold}
use Rattle.std.specs.Prelude.{slice_get, slice_set, slice_index, nat_le, min, ◌==◌, ◌&&◌, if◌then◌else◌}
use Rattle.std.proofs.lemmas.Bool.Decides.{nat_tests}
use Rattle.race_board.specs.declared.worker_state.WorkerState.{WorkerState}
use Rattle.race_board.specs.declared.worker_state.WorkerState.TheVariants.{Free, Holds, Drained, Failed}
use Rattle.race_board.specs.declared.event.RaceEvent.{RaceEvent}
use Rattle.race_board.specs.declared.event.RaceEvent.TheVariants.{Draw, Complete, Fail}
use Rattle.race_board.specs.Race.{Worker, worker, fresh_worker, fresh_workers, RaceState, race, start, replayed, drawn, completed, failed, total_of, one_if_below, times_drawn, draws_of, steps_of, may_draw, may_record, draw_by, record_by, after_event, ends_of}
use Rattle.race_board.specs.inner.Balance.{held_price, first_prices, IsBalanced, AllSound, AreNumbered, IsRun}
use Rattle.race_board.proofs.Sums.{sum_set, prices_none}
use Rattle.race_board.proofs.Balances.{draw_balanced, complete_balanced, fail_balanced, all_sound_more, drawn_sound, completed_sound, failed_sound, sound_at, sound_set}

pub numbered_at : (k i : ℕ) (ws : List Worker) (w : Worker) → AreNumbered k ws → slice_get ws i ≡ Some w → w.number ≡ k + i
numbered_at k i [] w h e = absurd (cc)
numbered_at k zero (x ∷ xs) w h e = let same : x ≡ w = cc in ap (λ (y : Worker). y.number) (sym same) ∙ (h.0 ∙ omega arith)
numbered_at k (suc i) (x ∷ xs) w h e = numbered_at (k + 1) i xs w h.1 e ∙ omega arith

numbered_set : (k i : ℕ) (ws : List Worker) (v w : Worker) → AreNumbered k ws → slice_get ws i ≡ Some v → w.number ≡ v.number → AreNumbered k (set ws i w)
numbered_set k i [] v w h e same = tt
numbered_set k zero (x ∷ xs) v w h e same = let it : x ≡ v = cc in (same ∙ (ap (λ (y : Worker). y.number) (sym it) ∙ h.0), h.1)
numbered_set k (suc i) (x ∷ xs) v w h e same = (h.0, numbered_set (k + 1) i xs v w h.1 e same)

pub draw_keeps : (r : RaceState) (w n : ℕ) (d : List (ℕ × ℕ)) → slice_get r.workers w ≡ Some (worker n d Free) → IsRun r → IsRun (race r.prices (r.count + 1) (set r.workers w (drawn r.prices r.count (worker n d Free))))
draw_keeps r w n d at h =
    let old : Worker = worker n d Free in
    let new : Worker = drawn r.prices r.count old in
    let f = draw_balanced r.prices r.count (total_of steps_of r.workers) n d (λ g. total_of g r.workers) (λ g. total_of g (set r.workers w new)) (λ g. sum_set g r.workers w old new at) h.balanced in
    record {
      balanced = subst (λ (x : ℕ). IsBalanced r.prices (r.count + 1) x (λ g. total_of g (set r.workers w new))) (sym f.steps) f;
      sound = sound_set r.prices (r.count + 1) r.workers w new (all_sound_more r.prices r.count r.workers h.sound) (drawn_sound r.prices r.count n d (sound_at r.prices r.count r.workers w old h.sound at));
      numbered = numbered_set 0 w r.workers old new h.numbered at refl;
      small = h.small;
    }

pub complete_keeps : (r : RaceState) (w n c s : ℕ) (d : List (ℕ × ℕ)) → slice_get r.workers w ≡ Some (worker n d (Holds c)) → s ≤ slice_index r.prices c → IsRun r → IsRun (race r.prices r.count (set r.workers w (completed c s (worker n d (Holds c)))))
complete_keeps r w n c s d at le h =
    let old : Worker = worker n d (Holds c) in
    let new : Worker = worker n (d ++ (c, s) ∷ []) Free in
    let f = complete_balanced r.prices r.count (total_of steps_of r.workers) n s c d (λ g. total_of g r.workers) (λ g. total_of g (set r.workers w new)) (λ g. sum_set g r.workers w old new at) le h.balanced in
    record {
      balanced = subst (λ (x : ℕ). IsBalanced r.prices r.count x (λ g. total_of g (set r.workers w new))) (sym f.steps) f;
      sound = sound_set r.prices r.count r.workers w new h.sound (completed_sound r.prices r.count n c s d (sound_at r.prices r.count r.workers w old h.sound at) le);
      numbered = numbered_set 0 w r.workers old new h.numbered at refl;
      small = h.small;
    }

pub fail_keeps : (r : RaceState) (w n c s : ℕ) (d : List (ℕ × ℕ)) → slice_get r.workers w ≡ Some (worker n d (Holds c)) → s ≤ slice_index r.prices c → IsRun r → IsRun (race r.prices r.count (set r.workers w (failed c s (worker n d (Holds c)))))
fail_keeps r w n c s d at le h =
    let old : Worker = worker n d (Holds c) in
    let new : Worker = worker n d (Failed c s) in
    let f = fail_balanced r.prices r.count (total_of steps_of r.workers) n s c d (λ g. total_of g r.workers) (λ g. total_of g (set r.workers w new)) (λ g. sum_set g r.workers w old new at) le h.balanced in
    record {
      balanced = subst (λ (x : ℕ). IsBalanced r.prices r.count x (λ g. total_of g (set r.workers w new))) (sym f.steps) f;
      sound = sound_set r.prices r.count r.workers w new h.sound (failed_sound r.prices r.count n c s d (sound_at r.prices r.count r.workers w old h.sound at) le);
      numbered = numbered_set 0 w r.workers old new h.numbered at refl;
      small = h.small;
    }

draw_any : (r : RaceState) (w : ℕ) → IsRun r → (o : Option Worker) → slice_get r.workers w ≡ o → IsRun (draw_by r w o)
draw_any r w h None e = h
draw_any r w h (Some x) e = go x.state e
  where
    go : (st : WorkerState) → slice_get r.workers w ≡ Some (worker x.number x.done st) → IsRun (if may_draw st then race r.prices (r.count + 1) (slice_set r.workers w (drawn r.prices r.count (worker x.number x.done st))) else r)
    go Free at = draw_keeps r w x.number x.done at h
    go (Holds c) at = h
    go Drained at = h
    go (Failed c s) at = h

complete_any : (r : RaceState) (w c s : ℕ) → IsRun r → (o : Option Worker) → slice_get r.workers w ≡ o → IsRun (record_by r w c s (completed c s) o)
complete_any r w c s h None e = h
complete_any r w c s h (Some x) e = go x.state e
  where
    held : (d : ℕ) (b : Bool) → (d == c) && nat_le s (slice_index r.prices c) ≡ b → slice_get r.workers w ≡ Some (worker x.number x.done (Holds d)) → IsRun (if b then race r.prices r.count (slice_set r.workers w (completed c s (worker x.number x.done (Holds d)))) else r)
    held d true is at =
        let same : d ≡ c = grind (arith, nat_tests) in
        let le : s ≤ slice_index r.prices c = grind (arith, nat_tests) in
        complete_keeps r w x.number c s x.done (subst (λ (k : ℕ). slice_get r.workers w ≡ Some (worker x.number x.done (Holds k))) same at) le h
    held d false is at = h

    go : (st : WorkerState) → slice_get r.workers w ≡ Some (worker x.number x.done st) → IsRun (if may_record r.prices c s st then race r.prices r.count (slice_set r.workers w (completed c s (worker x.number x.done st))) else r)
    go Free at = h
    go (Holds d) at = held d ((d == c) && nat_le s (slice_index r.prices c)) refl at
    go Drained at = h
    go (Failed d t) at = h

fail_any : (r : RaceState) (w c s : ℕ) → IsRun r → (o : Option Worker) → slice_get r.workers w ≡ o → IsRun (record_by r w c s (failed c s) o)
fail_any r w c s h None e = h
fail_any r w c s h (Some x) e = go x.state e
  where
    held : (d : ℕ) (b : Bool) → (d == c) && nat_le s (slice_index r.prices c) ≡ b → slice_get r.workers w ≡ Some (worker x.number x.done (Holds d)) → IsRun (if b then race r.prices r.count (slice_set r.workers w (failed c s (worker x.number x.done (Holds d)))) else r)
    held d true is at =
        let same : d ≡ c = grind (arith, nat_tests) in
        let le : s ≤ slice_index r.prices c = grind (arith, nat_tests) in
        fail_keeps r w x.number c s x.done (subst (λ (k : ℕ). slice_get r.workers w ≡ Some (worker x.number x.done (Holds k))) same at) le h
    held d false is at = h

    go : (st : WorkerState) → slice_get r.workers w ≡ Some (worker x.number x.done st) → IsRun (if may_record r.prices c s st then race r.prices r.count (slice_set r.workers w (failed c s (worker x.number x.done st))) else r)
    go Free at = h
    go (Holds d) at = held d ((d == c) && nat_le s (slice_index r.prices c)) refl at
    go Drained at = h
    go (Failed d t) at = h

pub event_keeps : (r : RaceState) (e : RaceEvent) → IsRun r → IsRun (after_event r e)
event_keeps r (Draw w) h = draw_any r w h (slice_get r.workers w) refl
event_keeps r (Complete w c s) h = complete_any r w c s h (slice_get r.workers w) refl
event_keeps r (Fail w c s) h = fail_any r w c s h (slice_get r.workers w) refl

pub events_keep : (r : RaceState) (es : List RaceEvent) → IsRun r → IsRun (fold after_event r es)
events_keep r [] h = h
events_keep r (e ∷ es) h = events_keep (after_event r e) es (event_keeps r e h)

pub fresh_sum : (f : Worker → ℕ) → ((k : ℕ) → f (fresh_worker k) ≡ 0) → (a n : ℕ) → total_of f (fresh_workers a n) ≡ 0
fresh_sum f z a zero = refl
fresh_sum f z a (suc n) = let x = z a in let y = fresh_sum f z (a + 1) n in omega arith

pub fresh_sound : (prices : List ℕ) (count a n : ℕ) → AllSound prices count (fresh_workers a n)
fresh_sound prices count a zero = tt
fresh_sound prices count a (suc n) = (((tt, tt), tt), fresh_sound prices count (a + 1) n)

fresh_numbered : (a n : ℕ) → AreNumbered a (fresh_workers a n)
fresh_numbered a zero = tt
fresh_numbered a (suc n) = (refl, fresh_numbered (a + 1) n)

pub none_below : (c l : ℕ) → 0 ≡ one_if_below c (min 0 l)
none_below c l = grind (arith, nat_tests)

-- nothing was drawn, told or spent among workers whose every sum is 0
pub start_balanced : (prices : List ℕ) (weigh : (Worker → ℕ) → ℕ) → ((f : Worker → ℕ) → ((k : ℕ) → f (fresh_worker k) ≡ 0) → weigh f ≡ 0) → IsBalanced prices 0 0 weigh
start_balanced prices weigh zeros = record {
  drawn = λ c. zeros (times_drawn c) (λ k. refl) ∙ none_below c (length prices);
  draws = zeros draws_of (λ k. refl) ∙ omega arith;
  counted = let a = zeros draws_of (λ k. refl) in let b = zeros ends_of (λ k. refl) in omega arith;
  steps = zeros steps_of (λ k. refl);
  capacity = let a = zeros (held_price prices) (λ k. refl) in let b = prices_none prices in omega arith;
}

pub start_spent : (n : ℕ) → total_of steps_of (fresh_workers 0 n) ≡ 0
start_spent n = fresh_sum steps_of (λ k. refl) 0 n

pub start_runs : (prices : List ℕ) (n : ℕ) → first_prices prices (length prices) ≤ 2 ^ 62 → IsRun (start prices n)
start_runs prices n small = record {
  balanced = subst (λ (x : ℕ). IsBalanced prices 0 x (λ f. total_of f (fresh_workers 0 n))) (sym (start_spent n)) (start_balanced prices (λ f. total_of f (fresh_workers 0 n)) (λ f z. fresh_sum f z 0 n));
  sound = fresh_sound prices 0 0 n;
  numbered = fresh_numbered 0 n;
  small = small;
}

pub replayed_runs : (prices : List ℕ) (n : ℕ) (es : List RaceEvent) → first_prices prices (length prices) ≤ 2 ^ 62 → IsRun (replayed prices n es)
replayed_runs prices n es small = events_keep (start prices n) es (start_runs prices n small)

pub fresh_snoc : (a n : ℕ) → fresh_workers a n ++ fresh_worker (a + n) ∷ [] ≡ fresh_workers a (n + 1)
fresh_snoc a n = let e : suc n ≡ n + 1 = omega arith in go a n ∙ ap (λ (m : ℕ). fresh_workers a m) e
  where
    go : (b m : ℕ) → fresh_workers b m ++ fresh_worker (b + m) ∷ [] ≡ fresh_workers b (suc m)
    go b zero = let e : b + 0 ≡ b = omega arith in ap (λ (k : ℕ). fresh_worker k ∷ []) e
    go b (suc m) = let e : b + suc m ≡ (b + 1) + m = omega arith in ap (λ (k : ℕ). fresh_worker b ∷ (fresh_workers (b + 1) m ++ fresh_worker k ∷ [])) e ∙ ap (λ l. fresh_worker b ∷ l) (go (b + 1) m)
