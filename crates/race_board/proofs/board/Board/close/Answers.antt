use Rattle.std.proofs.Common.{◌≡◌, arith, ◌∷◌, [], ap, ◌∙◌, sym, subst}
use Rattle.std.specs.Prelude.{All}
use Rattle.race_board.specs.Race.{BoardState, SeatState, workers_of, total_of, draws_of, steps_of}
use Rattle.race_board.specs.Naming.{name_of}
use Rattle.race_board.proofs.Seats.{gathered_snoc}
use Rattle.race_board.proofs.Elements.{all_first}
use Rattle.race_board.proofs.Closing.{AreHanded, closing_with, none_closing}
use Rattle.race_board.proofs.board.Board.close.Goals as goal

handed : (c : goal.After-end) → AreHanded c.args.self (workers_of c.args.seats.items) c.end.result.count c.end.result.recorded
handed c = record {
  race_key = c.self.inside.table.shared.key;
  crew = c.gather-all.result.table_seat.me.0;
  closed = c.end.ensures.held;
  same = λ f. c.gather-all.ensures.all f ∙ sym (ap (λ l. total_of f (workers_of l)) c.in-Some.ensures.items ∙ gathered_snoc f c.pop.new.self.items c.in-Some.first);
  prices = ap (λ (b : BoardState). b.prices) c.self.view_is;
  workers = ap (λ (b : BoardState). b.workers) c.self.view_is;
}

pub returns : goal.returns
unfolding handed
returns c = closing_with c.args.self (workers_of c.args.seats.items) c.end.result (handed c) (c.end.ensures.draws ∙ (handed c).same draws_of) (c.end.ensures.spent ∙ (handed c).same steps_of)

pub gather-all-requires-clause-own : goal.gather-all-requires-clause-own
gather-all-requires-clause-own c =
    let name = name_of c.self.inside.table.shared.table_id in
    let own : All (λ (s : SeatState). s.board ≡ name) c.args.seats.items = (λ k d l. c.requires.own k d l ∙ sym (ap (λ (b : BoardState). b.name) c.self.view_is)) in
    all_first (λ (s : SeatState). s.board ≡ name) c.pop.new.self.items (c.in-Some.first ∷ []) (subst (All (λ (s : SeatState). s.board ≡ name)) c.in-Some.ensures.items own)

pub returns-in_default : goal.returns-in_default
returns-in_default c =
    let none = c.in_default.ensures.cases.0 in
    let e = c.end_without_seats.ensures in
    none_closing c.args.self c.args.seats.items c.self.inside.table.shared.key c.end_without_seats.result (omega arith) e.held (ap (λ (b : BoardState). b.prices) c.self.view_is) (ap (λ (b : BoardState). b.workers) c.self.view_is) e.draws e.spent
