use Rattle.std.proofs.Common.{◌≡◌, ◌%◌, [], IfOk, ℕ, ◌∷◌, ◌++◌, List, sym, ap, ◌∙◌, subst, arith, vec_len}
use Rattle.std.specs.Prelude.{All}
use Rattle.std.proofs.lemmas.Grind.{common_steps}
use Rattle.race_board.specs.Race.{Worker, SeatState, IsSeatOf, IsDrained, workers_of}
use Rattle.race_board.specs.Chunks.{CostJust, completed_by}
use Rattle.race_board.proofs.Elements.{all_first, all_last, all_snoc}
use Rattle.race_board.proofs.Seats.{workers_snoc}
use Rattle.race_board.proofs.Chunks.{completed_snoc, cost_append}
use Rattle.thread_tests.proofs.boards.joined.join.Goals as goal

pub loop-result-preserved : goal.loop-result-preserved
loop-result-preserved c =
    let i = c.loop-result.invariant in
    let board = c.args.board.now in
    let seats = c.loop-result.seats.items in
    let seat = c.in_ok-seat.seat in
    let list = c.in_ok-seat.list.items in
    let rest = c.pop.new.self.items in
    let was = c.in_ok-seat.was in
    let step : completed_by (workers_of (seats ++ seat ∷ [])) ≡ completed_by (workers_of seats) ++ seat.worker.done = ap completed_by (workers_snoc seats seat) ∙ completed_snoc (workers_of seats) seat.worker in
    let own = subst (All (λ r. IfOk r (λ w. IsSeatOf board w.0))) c.in-Some.ensures.items i.rest_own in
    let drained = subst (All (λ r. IfOk r (λ w. IsDrained w.0.worker))) c.in-Some.ensures.items i.rest_told in
    let same = subst (All (λ r. IfOk r (λ w. w.0.worker.done ≡ w.1.items))) c.in-Some.ensures.items i.rest_same in
    let cost = subst (All (λ r. IfOk r (λ w. CostJust (λ n. n % 7) w.1.items))) c.in-Some.ensures.items i.rest_cost in
    let here_own : IsSeatOf board seat = subst (λ r. IfOk r (λ w. IsSeatOf board w.0)) was (all_last (λ r. IfOk r (λ w. IsSeatOf board w.0)) rest c.in-Some.result own) in
    let here_told : IsDrained seat.worker = subst (λ r. IfOk r (λ w. IsDrained w.0.worker)) was (all_last (λ r. IfOk r (λ w. IsDrained w.0.worker)) rest c.in-Some.result drained) in
    let here_same : seat.worker.done ≡ list = subst (λ r. IfOk r (λ w. w.0.worker.done ≡ w.1.items)) was (all_last (λ r. IfOk r (λ w. w.0.worker.done ≡ w.1.items)) rest c.in-Some.result same) in
    let here_cost : CostJust (λ n. n % 7) list = subst (λ r. IfOk r (λ w. CostJust (λ n. n % 7) w.1.items)) was (all_last (λ r. IfOk r (λ w. CostJust (λ n. n % 7) w.1.items)) rest c.in-Some.result cost) in
    record {
      rest_own = all_first (λ r. IfOk r (λ w. IsSeatOf board w.0)) rest (c.in-Some.result ∷ []) own;
      rest_told = all_first (λ r. IfOk r (λ w. IsDrained w.0.worker)) rest (c.in-Some.result ∷ []) drained;
      rest_same = all_first (λ r. IfOk r (λ w. w.0.worker.done ≡ w.1.items)) rest (c.in-Some.result ∷ []) same;
      rest_cost = all_first (λ r. IfOk r (λ w. CostJust (λ n. n % 7) w.1.items)) rest (c.in-Some.result ∷ []) cost;
      many = let a = c.in-Some.ensures.len in let b = c.in_ok-push.ensures.len in let m = i.many in omega arith;
      own = subst (All (IsSeatOf board)) (sym c.in_ok-push.ensures.items) (all_snoc (IsSeatOf board) seats seat i.own here_own);
      drained = subst (All (λ (s : SeatState). IsDrained s.worker)) (sym c.in_ok-push.ensures.items) (all_snoc (λ (s : SeatState). IsDrained s.worker) seats seat i.drained here_told);
      joined = ap (λ (l : List SeatState). completed_by (workers_of l)) c.in_ok-push.ensures.items ∙ (step ∙ (ap (λ (l : List (ℕ × ℕ)). l ++ seat.worker.done) i.joined ∙ (ap (λ (l : List (ℕ × ℕ)). c.loop-result.joined.items ++ l) (here_same ∙ sym c.as_slice.ensures.value) ∙ sym c.in_ok-extend_from_slice.ensures.items)));
      cost = subst (CostJust (λ n. n % 7)) (sym c.in_ok-extend_from_slice.ensures.items) (cost_append (λ n. n % 7) c.loop-result.joined.items c.as_slice.result.now i.cost (subst (CostJust (λ n. n % 7)) (sym c.as_slice.ensures.value) here_cost));
    }
