use Rattle.std.proofs.Common.{arith, ◌≡◌, ℕ, ◌<◌, length}
use Rattle.std.proofs.lemmas.Bool.Decides.{nat_tests}
use Rattle.race_board.specs.Race.{one_if_same}
use Rattle.race_board.proofs.Sums.{sum_take}
use Rattle.race_board.proofs.worker.WorkerRecord.steps_of.Goals as goal

other : (c x : ℕ) → ¬ (x ≡ c) → one_if_same c x ≡ 0
other c x apart = grind (arith, nat_tests)

pub loop-done-preserved : goal.loop-done-preserved
loop-done-preserved c =
    let ds = c.deref-done-items.result.now in
    let i = c.loop-done.done-index in
    let within : i < length ds = omega arith in
    let t = sum_take (λ (d : ℕ × ℕ). one_if_same c.args.chunk d.0) ds i (0, 0) within in
    let o = other c.args.chunk _ c.if-done-chunk.false in
    let before = c.loop-done.invariant in
    omega arith
