-- The law of the race, of every run.
use Rattle.std.proofs.Common.{◌≡◌, ℕ, suc, ◌<◌, ◌≤◌, List, [], ◌∷◌, length, Some, refl, sym, ap, ◌∙◌, arith}
use Rattle.std.specs.Prelude.{All, Any, slice_get, slice_index_or, min}
use Rattle.std.proofs.lemmas.Bool.Decides.{nat_tests}
use Rattle.std.proofs.lemmas.Option.{slice_get-get_or}
use Rattle.race_board.specs.Race.{Worker, RaceState, total_of, one_if_below, times_completed, times_now, times_drawn, steps_of, IsWithinPrices, IsDrained, IsLawful, AreInPlace, ends_of, ends_now}
use Rattle.race_board.specs.inner.Balance.{IsBalanced, AllSound, IsRun}
use Rattle.race_board.proofs.Sums.{sum_has}
use Rattle.race_board.proofs.Balances.{sound_at}
use Rattle.race_board.proofs.Events.{numbered_at}

ended : (w : Worker) → IsDrained w → ends_of w ≡ 1
ended w told = ap ends_now told

-- the place that `Any` names
pub any_ended : (ws : List Worker) → Any IsDrained ws → 0 < total_of ends_of ws
any_ended ws a =
    let at : slice_get ws a.0 ≡ Some (slice_index_or ws a.0 a.1) = slice_get-get_or ws a.0 a.1 a.2 in
    let it = sum_has ends_of ws a.0 (slice_index_or ws a.0 a.1) at in
    let e = ended a.1 a.4 in
    let same = ap ends_of a.3 in
    omega arith

below_all : (c n l : ℕ) → l ≤ n → c < l → one_if_below c (min n l) ≡ 1
below_all c n l le lt = grind (arith, nat_tests)

-- once the end was told, the count passed every chunk
pub past_end : (prices : List ℕ) (count spent : ℕ) (weigh : (Worker → ℕ) → ℕ) → IsBalanced prices count spent weigh → 0 < weigh ends_of → length prices ≤ count
past_end prices count spent weigh h told = let a = h.counted in let b = h.draws in omega arith

pub drawn_is_completed : (c : ℕ) (ws : List Worker) → All IsDrained ws → total_of (times_drawn c) ws ≡ total_of (times_completed c) ws
drawn_is_completed c [] all = refl
drawn_is_completed c (w ∷ ws) all =
    let a = drawn_is_completed c ws (λ k d l. all (suc k) d (omega arith)) in
    let b : times_now c w.state ≡ 0 = ap (times_now c) (all 0 w (omega arith)) in
    omega arith

some_ended : (ws : List Worker) → 0 < length ws → All IsDrained ws → 0 < total_of ends_of ws
some_ended [] l all = absurd (omega arith)
some_ended (w ∷ ws) l all = let e = ended w (all 0 w (omega arith)) in omega arith

pub all_within : (prices : List ℕ) (count : ℕ) (ws : List Worker) → AllSound prices count ws → All (IsWithinPrices prices) ws
all_within prices count ws h k d l = (sound_at prices count ws k (slice_index_or ws k d) h (slice_get-get_or ws k d l)).0

-- the law follows from the balance
pub lawful_of : (prices : List ℕ) (count spent : ℕ) (ws : List Worker) → IsBalanced prices count spent (λ f. total_of f ws) → All (IsWithinPrices prices) ws → IsLawful prices count ws
lawful_of prices count spent ws h within = record {
  drawn_once = h.drawn;
  within_prices = within;
  end_is_true = λ told c l. h.drawn c ∙ below_all c count (length prices) (past_end prices count spent (λ f. total_of f ws) h (any_ended ws told)) l;
  all_completed = λ some told c l. sym (drawn_is_completed c ws told) ∙ (h.drawn c ∙ below_all c count (length prices) (past_end prices count spent (λ f. total_of f ws) h (some_ended ws some told)) l);
}

pub run_is_lawful : (r : RaceState) → IsRun r → IsLawful r.prices r.count r.workers
run_is_lawful r h = lawful_of r.prices r.count (total_of steps_of r.workers) r.workers h.balanced (all_within r.prices r.count r.workers h.sound)

pub run_in_place : (r : RaceState) → IsRun r → AreInPlace r.workers
run_in_place r h k w e = numbered_at 0 k r.workers w h.numbered e ∙ omega arith
