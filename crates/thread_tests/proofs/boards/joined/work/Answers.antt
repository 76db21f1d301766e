use Rattle.std.proofs.Common.{arith, ◌≡◌, ℕ, ◌+◌, ◌-◌, ◌<◌, ◌++◌, ◌∷◌, [], ap, sym, subst, ◌∙◌, refl, List, ◌%◌}
use Rattle.race_board.specs.Race.{Worker, times_drawn}
use Rattle.race_board.specs.Chunks.{CostJust}
use Rattle.race_board.proofs.Turns.{completed_drew}
use Rattle.race_board.proofs.Chunks.{cost_append}
use Rattle.thread_tests.proofs.boards.joined.work.Goals as goal

pub loop-chunk-preserved : goal.loop-chunk-preserved
loop-chunk-preserved c =
    let chunk = c.in-Some.chunk in
    let back : chunk ≡ (chunk + 1) - 1 = omega arith in
    let done = c.complete.ensures.completed in
    let drew = c.in-Some.ensures.chunk.1 in
    let entry : List (ℕ × ℕ) = (chunk, c.cost-steps.result) ∷ [] in
    record {
      ready = (c.complete.ensures.own, ap (λ (w : Worker). w.state) done);
      next = λ _. subst (λ (k : ℕ). 0 < times_drawn k c.complete.new.seat.worker) back (subst (λ (w : Worker). 0 < times_drawn chunk w) (sym done) (completed_drew chunk _ c.draw.new.seat.worker));
      same = ap (λ (w : Worker). w.done) done ∙ (ap (λ (w : Worker). w.done ++ entry) drew ∙ (ap (λ (l : List (ℕ × ℕ)). l ++ entry) c.loop-chunk.invariant.same ∙ sym c.in_ok-push.ensures.items));
      cost = subst (CostJust (λ (n : ℕ). n % 7)) (sym c.in_ok-push.ensures.items) (cost_append (λ (n : ℕ). n % 7) c.loop-chunk.list.items entry c.loop-chunk.invariant.cost (c.cost-steps.ensures, tt));
    }
