use Rattle.std.proofs.Common.{arith, ap, ◌∙◌}
use Rattle.std.proofs.lemmas.Grind.{common_steps}
use Rattle.race_board.specs.Race.{SeatState, total_of, workers_of}
use Rattle.race_board.proofs.Sums.{sum_append}
use Rattle.race_board.proofs.Seats.{alone_sum, gathered_snoc}
use Rattle.race_board.proofs.board.gather.Goals as goal

pub loop-next-preserved : goal.loop-next-preserved
loop-next-preserved c = record {
  seats = grind (arith, common_steps);
  own = c.join-all.ensures.own ∙ c.loop-next.invariant.own;
  sums = λ f.
      let i = ap (λ l. total_of f (workers_of l)) c.in-Some.ensures.items in
      let s = gathered_snoc f c.pop.new.self.items c.in-Some.next in
      let j = ap (total_of f) c.join-all.ensures.both in
      let a = sum_append f c.loop-next.all.table_seat.me.0 c.next.inside.crew.table_seat.me.0 in
      let b = alone_sum f c.next.inside.crew.table_seat.me.0 c.in-Some.next.worker c.next.invariant (ap (λ (x : SeatState). x.worker) c.next.view_is) in
      let z = c.loop-next.invariant.sums f in
      omega arith;
}
