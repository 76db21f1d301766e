-- What a board was left with says of the workers whose seats were handed in.
use Rattle.std.proofs.Common.{◌≡◌, ℕ, zero, suc, ◌++◌, ◌+◌, ◌<◌, ◌≤◌, List, [], ◌∷◌, ◌-◌, length, set, refl, sym, ap, ◌∙◌, subst, arith, length-append}
use Rattle.std.specs.Prelude.{min, slice_index, slice_index_or, All, Any}
use mathlib.Core.Option.{some}
use lib.ListN.{get_elem?}
use Rattle.std.proofs.lemmas.Bool.Decides.{nat_tests}
use Rattle.std.proofs.lemmas.Option.{slice_get-get_or}
use Rattle.race_board.specs.declared.worker_state.WorkerState.{WorkerState}
use Rattle.race_board.specs.declared.worker_state.WorkerState.TheVariants.{Free, Holds, Drained, Failed}
use Rattle.race_board.specs.declared.race_key.RaceKey.{RaceKey}
use Rattle.race_board.specs.declared.totals.Totals.{Totals}
use Rattle.atomic_table.specs.Table.{State}
use Rattle.race_board.specs.Race.{Worker, BoardState, SeatState, workers_of, total_of, one_if_below, times_drawn, times_completed, draws_of, AreWithin, IsStateWithin, IsWithinPrices, IsDrained, IsFinished, IsLawful, RanOneRace, IsClosing, one_if_same, steps_of, ends_of}
use Rattle.race_board.specs.inner.Balance.{AllSound}
use Rattle.race_board.specs.inner.Rule.{weigh, IsHeld}
use Rattle.race_board.specs.inner.Crews.{IsClosedWith, IsClosed}
use Rattle.race_board.proofs.Sums.{sum_append, sum_set_view, sum_has_view, sum_has, count_of_all}
use Rattle.race_board.proofs.Balances.{balanced_same}
use Rattle.race_board.proofs.Lawful.{past_end, any_ended, drawn_is_completed, lawful_of}

-- no chunk was drawn by two of these workers
pub closed_once : (t : RaceKey) (ws : List Worker) (count recorded : ℕ) → IsClosedWith t ws count recorded → (c : ℕ) → total_of (times_drawn c) ws ≤ one_if_below c (length t.prices.each)
closed_once t ws count recorded h c =
    let a = sum_has_view (total_of (times_drawn c)) h.0.views h.1 ws h.3 in
    let b = h.2.balanced.drawn c in
    let e = below_least c h.2.count (length t.prices.each) in
    omega arith
  where
    below_least : (k m n : ℕ) → one_if_below k (min m n) ≤ one_if_below k n
    below_least k m n = grind (arith, nat_tests)

no_worker : (f : Worker → ℕ) (ws : List Worker) → total_of (λ (w : Worker). 1) ws ≡ 0 → total_of f ws ≡ 0
no_worker f [] e = refl
no_worker f (w ∷ ws) e = absurd (omega arith)

no_workers : (f : Worker → ℕ) (views : List (List Worker)) → weigh views (λ (w : Worker). 1) ≡ 0 → weigh views f ≡ 0
no_workers f [] z = refl
no_workers f (v ∷ vs) z = let a = no_workers f vs (omega arith) in let b = no_worker f v (omega arith) in omega arith

-- where all workers are here, every sum is theirs
whole_sum : (t : RaceKey) (ws : List Worker) (count recorded : ℕ) → (h : IsClosedWith t ws count recorded) → total_of (λ (w : Worker). 1) ws ≡ t.workers → (f : Worker → ℕ) → weigh h.0.views f ≡ total_of f ws
whole_sum t ws count recorded h all f =
    let rest : List (List Worker) = set h.0.views h.1 [] in
    let a = sum_set_view (total_of (λ (w : Worker). 1)) h.0.views h.1 ws [] h.3 in
    let m = h.2.many in
    let others : weigh rest (λ (w : Worker). 1) ≡ 0 = omega arith in
    let b = sum_set_view (total_of f) h.0.views h.1 ws [] h.3 in
    let z = no_workers f rest others in
    omega arith

-- with all workers, of whom one was told the end, the draws are the chunks, each once
pub closed_each : (t : RaceKey) (ws : List Worker) (count recorded : ℕ) → IsClosedWith t ws count recorded → total_of (λ (w : Worker). 1) ws ≡ t.workers → 0 < total_of ends_of ws → (c : ℕ) → total_of (times_drawn c) ws ≡ one_if_below c (length t.prices.each)
closed_each t ws count recorded h all told c =
    let a = whole_sum t ws count recorded h all (times_drawn c) in
    let e = whole_sum t ws count recorded h all ends_of in
    let past = past_end t.prices.each h.2.count h.2.spent (weigh h.0.views) h.2.balanced (omega arith) in
    let least : min h.2.count (length t.prices.each) ≡ length t.prices.each = omega arith in
    sym a ∙ (h.2.balanced.drawn c ∙ ap (one_if_below c) least)

pub closed_all : (t : RaceKey) (ws : List Worker) (count recorded : ℕ) → IsClosedWith t ws count recorded → total_of (λ (w : Worker). 1) ws ≡ t.workers → 0 < total_of ends_of ws → total_of draws_of ws ≡ length t.prices.each
closed_all t ws count recorded h all told =
    let a = whole_sum t ws count recorded h all draws_of in
    let e = whole_sum t ws count recorded h all ends_of in
    let past = past_end t.prices.each h.2.count h.2.spent (weigh h.0.views) h.2.balanced (omega arith) in
    let d = h.2.balanced.draws in
    omega arith

-- by how much a record's steps are above the price
abbrev excess_of : List ℕ → ℕ × ℕ → ℕ
excess_of prices d = d.1 - slice_index prices d.0

abbrev excess_now : List ℕ → WorkerState → ℕ
excess_now prices Free = 0
excess_now prices (Holds c) = 0
excess_now prices Drained = 0
excess_now prices (Failed c s) = s - slice_index prices c

abbrev excess : List ℕ → Worker → ℕ
excess prices w = total_of (excess_of prices) w.done + excess_now prices w.state

none_above : (prices : List ℕ) (ds : List (ℕ × ℕ)) → AreWithin prices ds → total_of (excess_of prices) ds ≡ 0
none_above prices [] h = refl
none_above prices (d ∷ ds) h = let a = none_above prices ds h.1 in let b = h.0 in omega arith

none_above_now : (prices : List ℕ) (s : WorkerState) → IsStateWithin prices s → excess_now prices s ≡ 0
none_above_now prices Free h = refl
none_above_now prices (Holds c) h = refl
none_above_now prices Drained h = refl
none_above_now prices (Failed c s) h = omega arith

are_within : (prices : List ℕ) (ds : List (ℕ × ℕ)) → total_of (excess_of prices) ds ≡ 0 → AreWithin prices ds
are_within prices [] e = tt
are_within prices (d ∷ ds) e = (omega arith, are_within prices ds (omega arith))

stands_within : (prices : List ℕ) (s : WorkerState) → excess_now prices s ≡ 0 → IsStateWithin prices s
stands_within prices Free e = tt
stands_within prices (Holds c) e = tt
stands_within prices Drained e = tt
stands_within prices (Failed c s) e = omega arith

sound_no_excess : (prices : List ℕ) (count : ℕ) (ws : List Worker) → AllSound prices count ws → total_of (excess prices) ws ≡ 0
sound_no_excess prices count [] h = refl
sound_no_excess prices count (w ∷ ws) h =
    let a = sound_no_excess prices count ws h.1 in
    let b = none_above prices w.done h.0.0.0 in
    let d = none_above_now prices w.state h.0.0.1 in
    omega arith

all_without_excess : (prices : List ℕ) (ws : List Worker) → total_of (excess prices) ws ≡ 0 → All (IsWithinPrices prices) ws
all_without_excess prices ws e k d l =
    let w = slice_index_or ws k d in
    let a = sum_has (excess prices) ws k w (slice_get-get_or ws k d l) in
    (are_within prices w.done (omega arith), stands_within prices w.state (omega arith))

-- the workers ws, whose seats were handed in, are those of a crew that the words were left with
pub record AreHanded (b : BoardState) (ws : List Worker) (count recorded : ℕ) : Type 0 where
  pub race_key : RaceKey
  pub crew : List Worker
  pub closed : IsClosedWith race_key crew count recorded
  pub same : (f : Worker → ℕ) → total_of f crew ≡ total_of f ws
  pub prices : race_key.prices.each ≡ b.prices
  pub workers : race_key.workers ≡ b.workers

handed_all : (b : BoardState) (ws : List Worker) (count recorded : ℕ) → (h : AreHanded b ws count recorded) → length ws ≡ b.workers → total_of (λ (w : Worker). 1) h.crew ≡ h.race_key.workers
handed_all b ws count recorded h all = h.same (λ (w : Worker). 1) ∙ (count_of_all ws ∙ (all ∙ sym h.workers))

handed_told : (b : BoardState) (ws : List Worker) (count recorded : ℕ) → (h : AreHanded b ws count recorded) → Any IsDrained ws → 0 < total_of ends_of h.crew
handed_told b ws count recorded h told = let a = any_ended ws told in let e = h.same ends_of in omega arith

pub handed_once : (b : BoardState) (ws : List Worker) (count recorded : ℕ) → AreHanded b ws count recorded → (c : ℕ) → total_of (times_drawn c) ws ≤ one_if_below c (length b.prices)
handed_once b ws count recorded h c =
    let a = closed_once h.race_key h.crew count recorded h.closed c in
    let e = h.same (times_drawn c) in
    let p = ap (λ (l : List ℕ). one_if_below c (length l)) h.prices in
    omega arith

pub handed_within : (b : BoardState) (ws : List Worker) (count recorded : ℕ) → AreHanded b ws count recorded → All (IsWithinPrices b.prices) ws
handed_within b ws count recorded h =
    let a = sound_no_excess h.race_key.prices.each h.closed.2.count h.crew (h.closed.2.sound h.closed.1 h.crew h.closed.3) in
    subst (λ (l : List ℕ). All (IsWithinPrices l) ws) h.prices (all_without_excess h.race_key.prices.each ws (sym (h.same (excess h.race_key.prices.each)) ∙ a))

pub handed_each : (b : BoardState) (ws : List Worker) (count recorded : ℕ) → AreHanded b ws count recorded → IsFinished b ws → (c : ℕ) → total_of (times_drawn c) ws ≡ one_if_below c (length b.prices)
handed_each b ws count recorded h f c =
    sym (h.same (times_drawn c)) ∙ (closed_each h.race_key h.crew count recorded h.closed (handed_all b ws count recorded h f.0) (handed_told b ws count recorded h f.1) c ∙ ap (λ (l : List ℕ). one_if_below c (length l)) h.prices)

pub handed_draws : (b : BoardState) (ws : List Worker) (count recorded : ℕ) → AreHanded b ws count recorded → IsFinished b ws → total_of draws_of ws ≡ length b.prices
handed_draws b ws count recorded h f =
    sym (h.same draws_of) ∙ (closed_all h.race_key h.crew count recorded h.closed (handed_all b ws count recorded h f.0) (handed_told b ws count recorded h f.1) ∙ ap (λ (l : List ℕ). length l) h.prices)

pub handed_completed : (b : BoardState) (ws : List Worker) (count recorded : ℕ) → AreHanded b ws count recorded → IsFinished b ws → All IsDrained ws → (c : ℕ) → total_of (times_completed c) ws ≡ one_if_below c (length b.prices)
handed_completed b ws count recorded h f told c = sym (drawn_is_completed c ws told) ∙ handed_each b ws count recorded h f c

-- the workers of all views
abbrev all_of : List (List Worker) → List Worker
all_of [] = []
all_of (v ∷ vs) = v ++ all_of vs

total_all : (f : Worker → ℕ) (views : List (List Worker)) → total_of f (all_of views) ≡ weigh views f
total_all f [] = refl
total_all f (v ∷ vs) = let a = sum_append f v (all_of vs) in let b = total_all f vs in omega arith

views_no_excess : (prices : List ℕ) (count : ℕ) (views : List (List Worker)) → ((j : ℕ) (v : List Worker) → get_elem? views j ≡ some v → AllSound prices count v) → weigh views (excess prices) ≡ 0
views_no_excess prices count [] h = refl
views_no_excess prices count (v ∷ vs) h =
    let a = sound_no_excess prices count v (h zero v refl) in
    let b = views_no_excess prices count vs (λ j u e. h (suc j) u e) in
    omega arith

-- workers who share their sums with the views of a state that meets the rule ran one race, those of them who are lost included
ran : (b : BoardState) (t : RaceKey) (s : State ℕ (List Worker)) (h : IsHeld t s) (ws lost : List Worker) → t.prices.each ≡ b.prices → t.workers ≡ b.workers → ((f : Worker → ℕ) → total_of f (ws ++ lost) ≡ weigh s.views f) → RanOneRace b ws h.count h.spent
ran b t s h ws lost prices workers sums =
    let ps : List ℕ = t.prices.each in
    let balanced = balanced_same ps h.count h.spent (weigh s.views) (λ f. total_of f (ws ++ lost)) sums h.balanced in
    let within = all_without_excess ps (ws ++ lost) (sums (excess ps) ∙ views_no_excess ps h.count s.views h.sound) in
    record {
      lost = lost;
      many = sym (count_of_all (ws ++ lost)) ∙ (sums (λ (w : Worker). 1) ∙ (h.many ∙ workers));
      numbers = λ k. sums (λ (w : Worker). one_if_same k w.number) ∙ (h.numbers k ∙ ap (one_if_below k) workers);
      lawful = subst (λ (l : List ℕ). IsLawful l h.count (ws ++ lost)) prices (lawful_of ps h.count h.spent (ws ++ lost) balanced within);
      counted = balanced.counted;
      steps = balanced.steps;
    }

-- the same of another count and other steps, which are equal
ran_same : (b : BoardState) (ws : List Worker) (count recorded c r : ℕ) → count ≡ c → recorded ≡ r → RanOneRace b ws count recorded → RanOneRace b ws c r
ran_same b ws count recorded c r e f o = subst (λ (n : ℕ). RanOneRace b ws n r) e (subst (λ (n : ℕ). RanOneRace b ws count n) f o)

-- the workers handed in and the others ran one race
pub handed_race : (b : BoardState) (ws : List Worker) (count recorded : ℕ) → AreHanded b ws count recorded → RanOneRace b ws count recorded
handed_race b ws count recorded h =
    let held = h.closed.2 in
    let views : List (List Worker) = h.closed.0.views in
    let lost : List Worker = all_of (set views h.closed.1 []) in
    let sums : (f : Worker → ℕ) → total_of f (ws ++ lost) ≡ weigh views f = (λ f.
    let a = sum_append f ws lost in
    let e = h.same f in
    let d = total_all f (set views h.closed.1 []) in
    let g = sum_set_view (total_of f) views h.closed.1 h.crew [] h.closed.3 in
    omega arith) in
    ran_same b ws held.count held.spent count recorded h.closed.4 h.closed.5 (ran b h.race_key h.closed.0 held ws lost h.prices h.workers sums)

-- with all workers, nothing was lost
pub none_lost : (b : BoardState) (ws : List Worker) (count recorded : ℕ) → RanOneRace b ws count recorded → length ws ≡ b.workers → total_of steps_of ws ≡ recorded
none_lost b ws count recorded r all =
    let l = length-append ws r.lost in
    let m = r.many in
    let z = nothing r.lost (omega arith) in
    let a = sum_append steps_of ws r.lost in
    let e = r.steps in
    omega arith
  where
    nothing : (xs : List Worker) → length xs ≡ 0 → total_of steps_of xs ≡ 0
    nothing [] e = refl
    nothing (x ∷ xs) e = absurd (omega arith)

-- what closing says, where seats were handed in
pub closing_with : (b : BoardState) (ws : List Worker) (t : Totals) → AreHanded b ws t.count t.recorded → t.draws ≡ total_of draws_of ws → t.spent ≡ total_of steps_of ws → IsClosing b ws t
closing_with b ws t h draws spent = record {
  draws = draws;
  spent = spent;
  once = handed_once b ws t.count t.recorded h;
  within = handed_within b ws t.count t.recorded h;
  race = handed_race b ws t.count t.recorded h;
  nothing_lost = λ all. sym (none_lost b ws t.count t.recorded (handed_race b ws t.count t.recorded h) all) ∙ sym spent;
  all = λ f. draws ∙ handed_draws b ws t.count t.recorded h f;
  each = handed_each b ws t.count t.recorded h;
  completed = handed_completed b ws t.count t.recorded h;
}

-- where no seat is handed in
pub none_closing : (b : BoardState) (seats : List SeatState) (race_key : RaceKey) (t : Totals) → length seats ≡ 0 → IsClosed race_key t.count t.recorded → race_key.prices.each ≡ b.prices → race_key.workers ≡ b.workers → t.draws ≡ 0 → t.spent ≡ 0 → IsClosing b (workers_of seats) t
none_closing b (s ∷ ss) race_key t none h prices workers draws spent = absurd (omega arith)
none_closing b [] race_key t none h prices workers draws spent =
    let views : List (List Worker) = h.0.views in
    let race : RanOneRace b [] t.count t.recorded = ran_same b [] h.1.count h.1.spent t.count t.recorded h.2 h.3 (ran b race_key h.0 h.1 [] (all_of views) prices workers (λ f. total_all f views)) in
    record {
      draws = draws;
      spent = spent;
      once = λ c. omega arith;
      within = λ k d l. absurd (omega arith);
      race = race;
      nothing_lost = λ all. sym (none_lost b [] t.count t.recorded race all) ∙ sym spent;
      all = λ f. absurd (nobody f.1);
      each = λ f. absurd (nobody f.1);
      completed = λ f. absurd (nobody f.1);
    }
  where
    nobody : Any IsDrained [] → ⊥
    nobody a = let l = a.2 in omega arith
