use Rattle.std.proofs.Common.{arith, ◌≡◌, ℕ, ◌+◌, ◌∷◌, [], ◌++◌, ap, ◌∙◌, sym, subst, List}
use Rattle.race_board.specs.Race.{Worker, fresh_worker, fresh_workers, race, total_of, steps_of}
use Rattle.race_board.specs.inner.Balance.{IsRun}
use Rattle.race_board.proofs.Sums.{prices_sum}
use Rattle.race_board.proofs.Events.{fresh_snoc, start_runs, start_spent}
use Rattle.race_board.proofs.race.Race.start.Goals as goal

pub loop-number-preserved : goal.loop-number-preserved
loop-number-preserved c =
    let k = c.loop-number.number in
    let none : 0 + k ≡ k = omega arith in
    c.in_ok-push.ensures.items
    ∙ (ap (λ (l : List Worker). l ++ c.new.result ∷ []) c.loop-number.invariant
    ∙ (ap (λ (w : Worker). fresh_workers 0 k ++ w ∷ []) c.new.ensures
    ∙ (ap (λ (m : ℕ). fresh_workers 0 k ++ fresh_worker m ∷ []) (sym none) ∙ fresh_snoc 0 k)))

pub invariant_of-result : goal.invariant_of-result
invariant_of-result c =
    let k = c.loop-number.number in
    let e = prices_sum c.args.prices.items in
    let a = c.requires in
    let runs = start_runs c.args.prices.items k (omega arith) in
    subst (λ (l : List Worker). IsRun (race c.args.prices.items 0 l) × (0 ≡ total_of steps_of l)) (sym c.loop-number.invariant) (runs, sym (start_spent k))
