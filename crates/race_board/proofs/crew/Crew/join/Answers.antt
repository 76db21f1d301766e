use Rattle.std.proofs.Common.{rules, arith, ap, ◌∙◌}
use Rattle.race_board.specs.Race.{total_of, draws_of, steps_of}
use Rattle.race_board.proofs.Sums.{sum_append}
use Rattle.race_board.proofs.Steps.{joins, learns}
use Rattle.race_board.proofs.crew.Crew.join.Goals as goal

pub join_seat-requires : goal.join_seat-requires
join_seat-requires c = (search rules, search rules, search rules, search rules, joins _ _ _ _ _)

pub load-requires : goal.load-requires
load-requires c = (search rules, search rules, learns _ _ _ _)

pub overflow_add-result : goal.overflow_add-result
overflow_add-result c =
    let v = ap (λ m. m.0) c.join_seat.ensures.2 in
    let a = ap (total_of draws_of) v in
    let b = sum_append draws_of c.args.self.table_seat.me.0 c.args.other.table_seat.me.0 in
    let d = c.load.ensures.2.2 in
    let x = c.args.self.draws_is in
    let y = c.args.other.draws_is in
    omega arith

pub overflow_add-result-2 : goal.overflow_add-result-2
overflow_add-result-2 c =
    let v = ap (λ m. m.0) c.join_seat.ensures.2 in
    let a = ap (total_of steps_of) v in
    let b = sum_append steps_of c.args.self.table_seat.me.0 c.args.other.table_seat.me.0 in
    let d = c.load.ensures.2.3 in
    let x = c.args.self.spent_is in
    let y = c.args.other.spent_is in
    omega arith

pub invariant_of-result : goal.invariant_of-result
invariant_of-result c =
    let e = c.load.ensures.2 in
    let j = c.join_seat.ensures.2 in
    let v = e.0 ∙ ap (λ m. m.0) j in
    let a = ap (total_of draws_of) v in
    let a' = ap (total_of steps_of) v in
    let b = sum_append draws_of c.args.self.table_seat.me.0 c.args.other.table_seat.me.0 in
    let b' = sum_append steps_of c.args.self.table_seat.me.0 c.args.other.table_seat.me.0 in
    let x = c.args.self.draws_is in
    let y = c.args.other.draws_is in
    let x' = c.args.self.spent_is in
    let y' = c.args.other.spent_is in
    record { no_slot = e.1 ∙ (ap (λ m. m.1) j ∙ c.args.self.no_slot); draws_is = omega arith; spent_is = omega arith }
