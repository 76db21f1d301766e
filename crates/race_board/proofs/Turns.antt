-- A worker's turns: what it completed it drew, so that its next draw is above it.
use Rattle.std.proofs.Common.{◌≡◌, ℕ, ◌<◌, [], ◌∷◌, arith}
use Rattle.std.proofs.lemmas.Bool.Decides.{nat_tests}
use Rattle.race_board.specs.Race.{Worker, completed, one_if_same, times_drawn}
use Rattle.race_board.proofs.Sums.{sum_append}

same_number : (c : ℕ) → one_if_same c c ≡ 1
same_number c = grind (arith, nat_tests)

pub completed_drew : (c s : ℕ) (w : Worker) → 0 < times_drawn c (completed c s w)
completed_drew c s w =
    let a = sum_append (λ (d : ℕ × ℕ). one_if_same c d.0) w.done ((c, s) ∷ []) in
    let b = same_number c in
    omega arith
