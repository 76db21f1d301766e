use Rattle.std.proofs.Common.{◌≡◌, ◌<◌, length, vec_len, Some, ℕ, List, sym, ap, ◌∙◌, subst, refl, arith}
use Rattle.std.specs.Prelude.{All, slice_index_or}
use Rattle.std.proofs.lemmas.Option.{slice_get-get_or}
use Rattle.std.proofs.lemmas.List.Elements.{All-replicate}
use Rattle.race_board.specs.Race.{Worker, MayDrawAt, IsFinished, workers_of}
use Rattle.race_board.specs.Chunks.{AreEachOnce, steps_in}
use Rattle.race_board.proofs.Finishing.{all_drained, drained_finished}
use Rattle.race_board.proofs.Chunks.{closed_completed, recorded_steps, recorded_completed, completed_steps}
use Rattle.thread_tests.proofs.boards.joined.race.Given as given
use Rattle.thread_tests.proofs.boards.joined.race.Goals as goal

pub map_vec-requires-after_bounds : goal.map_vec-requires-after_bounds
map_vec-requires-after_bounds g c κs within = λ i x l e.
    let board = c.in_ok-board.board in
    let seats = c.in_ok-board.seats.items in
    let prices = c.in_ok-board.ensures.board.0 ∙ c.in_ok-prices.ensures.items_if_clones_equal (λ y e. e) in (
      (
        subst (MayDrawAt board) (sym e) (c.in_ok-board.ensures.ready i x l),
        ap (λ (w : Worker). w.done) (c.in_ok-board.ensures.fresh i x (slice_get-get_or seats i x l ∙ ap Some (sym e))),
      ),
      subst (All (λ (p : ℕ). p ≡ 7)) (sym prices) (All-replicate (λ (p : ℕ). p ≡ 7) _ 7 refl),
    )

finished : (g : given.Over) (c : goal.After-drop-prices-2 g) → IsFinished c.in_ok-board.board (workers_of c.in_ok-seats.seats.items)
finished g c =
    let many = c.in_ok-seats.ensures.many in
    let jobs = c.in_ok-results.ensures.len in
    let seats = c.in_ok-board.ensures.seats in
    let workers = c.in_ok-board.ensures.board.1 in
    let some_worker = c.requires.0 in
    drained_finished c.in_ok-board.board c.in_ok-seats.seats.items (omega arith) (omega arith) c.in_ok-seats.ensures.drained

chunks : (g : given.Over) (c : goal.After-drop-prices-2 g) → length c.in_ok-board.board.prices ≡ c.args.chunks
chunks g c = let e = ap (λ (l : List ℕ). length l) c.in_ok-board.ensures.board.0 in let n = c.in_ok-prices.ensures.len in omega arith

once : (g : given.Over) (c : goal.After-drop-prices-2 g) → AreEachOnce c.args.chunks c.in_ok-seats.joined.items
once g c =
    let board = c.in_ok-board.board in
    let seats = c.in_ok-seats.seats.items in
    let each = closed_completed (length board.prices) (workers_of seats) (c.close.ensures.completed (finished g c) (all_drained seats c.in_ok-seats.ensures.drained)) in
    subst (λ (n : ℕ). AreEachOnce n c.in_ok-seats.joined.items) (chunks g c) (subst (AreEachOnce (length board.prices)) c.in_ok-seats.ensures.joined each)

spent : (g : given.Over) (c : goal.After-drop-prices-2 g) → steps_in c.in_ok-seats.joined.items ≡ c.close.result.spent
spent g c =
    let seats = c.in_ok-seats.seats.items in
    let drained = all_drained seats c.in_ok-seats.ensures.drained in
    ap steps_in (sym c.in_ok-seats.ensures.joined ∙ sym (recorded_completed (workers_of seats) drained)) ∙ (recorded_steps (workers_of seats) ∙ sym c.close.ensures.spent)

pub returns-clause-draws : goal.returns-clause-draws
returns-clause-draws g c = c.close.ensures.all (finished g c) ∙ chunks g c

pub returns-clause-each : goal.returns-clause-each
returns-clause-each g c = once g c

pub returns-clause-steps : goal.returns-clause-steps
returns-clause-steps g c = spent g c

pub returns-clause-cost : goal.returns-clause-cost
returns-clause-cost g c = sym (spent g c) ∙ completed_steps _ c.args.chunks c.in_ok-seats.joined.items (once g c) c.in_ok-seats.ensures.cost
