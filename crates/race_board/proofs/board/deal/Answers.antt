use Rattle.std.proofs.Common.{rules, arith, ◌≡◌, ap, ◌∙◌, sym, subst, List, [], length}
use Rattle.race_board.specs.Race.{Worker, SeatState, fresh_worker}
use Rattle.race_board.specs.Naming.{name_of, first_worker}
use Rattle.race_board.specs.inner.Rule.{rest_of, first_of}
use Rattle.race_board.proofs.Steps.{splits}
use Rattle.race_board.proofs.Seats.{AreDealt, fresh_rest, fresh_first, fresh_last, dealt_snoc}
use Rattle.race_board.proofs.board.deal.Goals as goal

pub split_seat-first-requires : goal.split_seat-first-requires
split_seat-first-requires c = (search rules, search rules, splits _ _ _)

pub new-requires-clause-fresh : goal.new-requires-clause-fresh
new-requires-clause-fresh c =
    let e = c.split_seat-first.ensures in
    (c.loop-worker._worker, 1, ap (λ m. m.0) e.4 ∙ (ap (λ m. first_of m.0) c.loop-worker.invariant.view ∙ fresh_first c.loop-worker._worker c.args.workers (omega arith)))

pub loop-worker-preserved : goal.loop-worker-preserved
loop-worker-preserved c =
    let e = c.split_seat-first.ensures in
    let k = c.loop-worker._worker in
    let v = c.loop-worker.invariant.view in
    let items = c.loop-worker.seats.items in
    let table_seat = c.new.ensures in
    let name = name_of c.args.table.now.shared.table_id in
    let l : k ≡ length items = omega arith in
    let board : name_of c.new.result.table_seat.table_id ≡ name = ap (λ p. name_of p.table_id) table_seat ∙ ap name_of (e.3 ∙ c.loop-worker.invariant.own) in
    let who : first_worker c.new.result.table_seat.me.0 ≡ fresh_worker (length items) =
    ap (λ p. first_worker p.me.0) table_seat ∙ (ap (λ m. first_worker m.0) e.4 ∙ (ap (λ m. first_worker (first_of m.0)) v ∙ (ap first_worker (fresh_first k c.args.workers (omega arith)) ∙ ap fresh_worker l))) in
    record {
      own = e.0 ∙ c.loop-worker.invariant.own;
      view = e.2 ∙ (ap (λ m. (rest_of m.0, m.1)) v ∙ ap (λ (x : List Worker). (x, [])) (fresh_rest k c.args.workers (omega arith)));
      len = search rules;
      dealt = subst (λ (l : List SeatState). AreDealt name l) (sym c.in_ok-push.ensures.items) (dealt_snoc name items _ c.loop-worker.invariant.dealt board who);
    }

pub returns-clause-fresh : goal.returns-clause-fresh
returns-clause-fresh c =
    let k = c.loop-worker._worker in
    let v = c.loop-worker.invariant.view in
    let items = c.loop-worker.seats.items in
    let table_seat = c.new-2.ensures in
    let name = name_of c.args.table.now.shared.table_id in
    let l : k ≡ length items = omega arith in
    let board : name_of c.new-2.result.table_seat.table_id ≡ name = ap (λ p. name_of p.table_id) table_seat ∙ ap name_of c.loop-worker.invariant.own in
    let who : first_worker c.new-2.result.table_seat.me.0 ≡ fresh_worker (length items) =
    ap (λ p. first_worker p.me.0) table_seat ∙ (ap (λ m. first_worker m.0) v ∙ (ap first_worker (fresh_last k c.args.workers (omega arith)) ∙ ap fresh_worker l)) in
    subst (λ (l : List SeatState). AreDealt name l) (sym c.in_ok-push-2.ensures.items) (dealt_snoc name items _ c.loop-worker.invariant.dealt board who)
