use Rattle.std.proofs.Common.{◌≡◌, ◌∙◌, [], ◌∷◌, subst, ap, arith}
use Rattle.std.specs.Prelude.{All, vec_items}
use Rattle.std.proofs.lemmas.Grind.{common_steps}
use Rattle.race_board.specs.Race.{MayDrawAt, SeatState}
use Rattle.race_board.proofs.Elements.{all_first}
use Rattle.job_runner.proofs.Crews.{all_pushed, all_same}
use Rattle.job_runner.proofs.crew.start.Goals as goal
use Rattle.job_runner.proofs.crew.start.Goals.{in-Ok, in-Err}

pub loop-seat-preserved-after-spawn_with-2 : goal.loop-seat-preserved-after-spawn_with-2
loop-seat-preserved-after-spawn_with-2 g c =
    let e = c.in-Some.ensures.items in
    let i = c.loop-seat.invariant in
    elim c.match-spawn_with.branch [
      | in-Ok w ↦ record {
        ready = all_first (MayDrawAt c.args.task.board.now) c.pop.new.self.items (c.in-Some.seat ∷ [])
            (subst (All (MayDrawAt c.args.task.board.now)) e i.ready);
        fresh = all_first (λ (s : SeatState). s.worker.done ≡ []) c.pop.new.self.items (c.in-Some.seat ∷ [])
            (subst (All (λ (s : SeatState). s.worker.done ≡ [])) e i.fresh);
        promised = all_pushed _ _ c.loop-seat.handles.items c.match-spawn_with.handles.items w.in-Ok.handle
            (ap vec_items w.handles-is ∙ w.push.ensures.items) i.promised w.in-Ok.ensures.ok;
        some = grind (arith, common_steps);
        capacity = grind (arith, common_steps);
        all = grind (arith, common_steps);
        refused = grind (arith, common_steps);
      }
      | in-Err w ↦ record {
        ready = all_first (MayDrawAt c.args.task.board.now) c.pop.new.self.items (c.in-Some.seat ∷ [])
            (subst (All (MayDrawAt c.args.task.board.now)) e i.ready);
        fresh = all_first (λ (s : SeatState). s.worker.done ≡ []) c.pop.new.self.items (c.in-Some.seat ∷ [])
            (subst (All (λ (s : SeatState). s.worker.done ≡ [])) e i.fresh);
        promised = all_same _ c.loop-seat.handles.items c.match-spawn_with.handles.items (ap vec_items w.handles-is) i.promised;
        some = grind (arith, common_steps);
        capacity = grind (arith, common_steps);
        all = grind (arith, common_steps);
        refused = grind (arith, common_steps);
      }
    ]
