use Rattle.std.proofs.Common.{rules, ◌+◌, ap, ◌∙◌, sym}
use Rattle.race_board.specs.Race.{total_of, draws_of, steps_of}
use Rattle.race_board.proofs.Steps.{fails_step}
use Rattle.race_board.proofs.Views.{fails_chunk, fail_draws, fail_steps}
use Rattle.race_board.proofs.crew.Crew.fail.Goals as goal

pub fetch_add-requires : goal.fetch_add-requires
fetch_add-requires c = (search rules, search rules, fails_step _ _ _ _ c.args.chunk c.args.steps c.requires.holds c.requires.price)

pub invariant_of-self : goal.invariant_of-self
invariant_of-self c =
    let e = c.fetch_add.ensures in
    let before = c.args.self.now in
    let now = e.2.0 ∙ fails_chunk c.args.chunk c.args.steps before.table_seat.me.0 c.requires.holds in
    let d = fail_draws c.args.chunk c.args.steps before.table_seat.me.0 c.requires.holds in
    let s = fail_steps c.args.chunk c.args.steps before.table_seat.me.0 c.requires.holds in
    record {
      no_slot = e.2.1 ∙ before.no_slot;
      draws_is = before.draws_is ∙ sym (ap (total_of draws_of) now ∙ d);
      spent_is = ap (λ x. x + c.args.steps) before.spent_is ∙ sym (ap (total_of steps_of) now ∙ s);
    }

pub returns-clause-failed : goal.returns-clause-failed
returns-clause-failed c = c.fetch_add.ensures.2.0 ∙ fails_chunk c.args.chunk c.args.steps c.args.self.now.table_seat.me.0 c.requires.holds
