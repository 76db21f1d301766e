use Rattle.std.proofs.Common.{◌∙◌, ap, refl, sym}
use Rattle.race_board.specs.Race.{total_of, draws_of, steps_of}
use Rattle.race_board.proofs.Events.{fresh_sum}
use Rattle.race_board.proofs.crew.Crew.new.Goals as goal

pub invariant_of-result : goal.invariant_of-result
invariant_of-result c =
    let f = c.requires.fresh in
    record {
      no_slot = c.requires.slot;
      draws_is = sym (ap (total_of draws_of) f.2 ∙ fresh_sum draws_of (λ k. refl) f.0 f.1);
      spent_is = sym (ap (total_of steps_of) f.2 ∙ fresh_sum steps_of (λ k. refl) f.0 f.1);
    }
