use Rattle.std.proofs.Common.{arith, ◌≡◌, ℕ, ◌+◌, ◌-◌, ◌<◌, ap, sym, subst}
use Rattle.race_board.specs.Race.{Worker, times_drawn}
use Rattle.race_board.proofs.Turns.{completed_drew}
use Rattle.thread_tests.proofs.boards.draw_all.Goals as goal

pub loop-chunk-preserved : goal.loop-chunk-preserved
loop-chunk-preserved c =
    let chunk = c.in-Some.chunk in
    let back : chunk ≡ (chunk + 1) - 1 = omega arith in
    let done = c.complete.ensures.completed in
    record {
      ready = (c.complete.ensures.own, ap (λ (w : Worker). w.state) done);
      next = λ _. subst (λ (k : ℕ). 0 < times_drawn k c.complete.new.seat.worker) back (subst (λ (w : Worker). 0 < times_drawn chunk w) (sym done) (completed_drew chunk _ c.draw.new.seat.worker));
    }
