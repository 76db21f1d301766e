use Rattle.std.proofs.Common.{arith, ◌≡◌, ℕ, ◌+◌, Some, true, ap, ◌∙◌, sym, subst}
use Rattle.std.specs.Prelude.{slice_get}
use Rattle.std.proofs.lemmas.Option.{slice_get_read}
use Rattle.race_board.specs.declared.event.RaceEvent.TheVariants.{Fail}
use Rattle.race_board.specs.Race.{Worker, RaceState, race, failed, after_event}
use Rattle.race_board.specs.inner.Race.{may_record_by}
use Rattle.race_board.specs.inner.Balance.{IsRun}
use Rattle.race_board.proofs.Events.{event_keeps}
use Rattle.race_board.proofs.Replays.{may_within, records_fit, records_made, fails_spend}
use Rattle.race_board.proofs.race.Race.fail.Goals as goal

pub overflow_add-self : goal.overflow_add-self
overflow_add-self c =
    let r = race c.self.inside.prices.items c.self.inside.count c.self.inside.workers.items in
    let may : true ≡ may_record_by r.prices c.args.chunk c.args.steps (slice_get r.workers c.args.worker) = subst (λ (s : RaceState). true ≡ may_record_by s.prices c.args.chunk c.args.steps (slice_get s.workers c.args.worker)) (sym c.self.view_is) (sym c.if-may_record.true ∙ c.may_record.ensures) in
    let fits = records_fit r c.args.worker c.args.chunk c.args.steps c.self.invariant.0 may in
    let spent = c.self.invariant.1 in
    omega arith

pub invariant_of-self : goal.invariant_of-self
invariant_of-self c =
    let r = race c.self.inside.prices.items c.self.inside.count c.self.inside.workers.items in
    let w = c.args.worker in
    let q = c.index_mut.result.now in
    let v = c.index_mut.ensures.value in
    let may : true ≡ may_record_by r.prices c.args.chunk c.args.steps (slice_get r.workers w) = subst (λ (s : RaceState). true ≡ may_record_by s.prices c.args.chunk c.args.steps (slice_get s.workers c.args.worker)) (sym c.self.view_is) (sym c.if-may_record.true ∙ c.may_record.ensures) in
    let within = may_within r w c.args.chunk c.args.steps may in
    let b : slice_get c.self.inside.workers.items w ≡ Some q = grind (arith, slice_get_read {X = Worker}) in
    let made = records_made r w c.args.chunk c.args.steps (failed c.args.chunk c.args.steps) q c.fail.new.self may b c.fail.ensures in (
      subst IsRun made (event_keeps r (Fail w c.args.chunk c.args.steps) c.self.invariant.0),
      ap (λ (k : ℕ). k + c.args.steps) c.self.invariant.1 ∙ fails_spend r w c.args.chunk c.args.steps q c.fail.new.self may b c.fail.ensures,
    )

pub returns-then-may_record : goal.returns-then-may_record
returns-then-may_record c =
    let r = race c.self.inside.prices.items c.self.inside.count c.self.inside.workers.items in
    let w = c.args.worker in
    let q = c.index_mut.result.now in
    let v = c.index_mut.ensures.value in
    let may : true ≡ may_record_by r.prices c.args.chunk c.args.steps (slice_get r.workers w) = subst (λ (s : RaceState). true ≡ may_record_by s.prices c.args.chunk c.args.steps (slice_get s.workers c.args.worker)) (sym c.self.view_is) (sym c.if-may_record.true ∙ c.may_record.ensures) in
    let within = may_within r w c.args.chunk c.args.steps may in
    let b : slice_get c.self.inside.workers.items w ≡ Some q = grind (arith, slice_get_read {X = Worker}) in
    let made = records_made r w c.args.chunk c.args.steps (failed c.args.chunk c.args.steps) q c.fail.new.self may b c.fail.ensures in
    sym made ∙ ap (λ (s : RaceState). after_event s (Fail w c.args.chunk c.args.steps)) c.self.view_is
