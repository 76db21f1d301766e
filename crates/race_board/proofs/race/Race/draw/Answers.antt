use Rattle.std.proofs.Common.{arith, ◌≡◌, ℕ, Some, length, ap, ◌∙◌, sym, subst}
use Rattle.std.specs.Prelude.{slice_get}
use Rattle.std.proofs.lemmas.Option.{slice_get_read}
use Rattle.race_board.specs.declared.worker_state.WorkerState.TheVariants.{Free}
use Rattle.race_board.specs.declared.event.RaceEvent.TheVariants.{Draw}
use Rattle.race_board.specs.Race.{Worker, worker, RaceState, race, state_after, after_event}
use Rattle.race_board.specs.inner.Balance.{IsRun}
use Rattle.race_board.proofs.Events.{event_keeps}
use Rattle.race_board.proofs.Replays.{count_below, draws_free, draws_spend_nothing}
use Rattle.race_board.proofs.race.Race.draw.Goals as goal

pub overflow_add-self : goal.overflow_add-self
overflow_add-self c = let e = count_below (race c.self.inside.prices.items c.self.inside.count c.self.inside.workers.items) c.self.invariant.0 in omega arith

pub invariant_of-self : goal.invariant_of-self
invariant_of-self c =
    let r = race c.self.inside.prices.items c.self.inside.count c.self.inside.workers.items in
    let w = c.args.worker in
    let x = c.index.result.now in
    let q = c.index_mut.result.now in
    let h = c.index.ensures in
    let v = c.index_mut.ensures.value in
    let a : slice_get c.self.inside.workers.items w ≡ Some x = grind (arith, slice_get_read {X = Worker}) in
    let b : slice_get c.self.inside.workers.items w ≡ Some q = grind (arith, slice_get_read {X = Worker}) in
    let free : x.state ≡ Free = sym c.state.ensures ∙ c.in-Free.is in
    let all : c.len-chunks.result ≡ length c.self.inside.prices.items = omega arith in
    let is : c.draw.new.self ≡ worker q.number q.done (state_after (length r.prices) r.count) = c.draw.ensures ∙ ap (λ (k : ℕ). worker q.number q.done (state_after k c.self.inside.count)) all in
    (subst IsRun (draws_free r w x q c.draw.new.self a b free is) (event_keeps r (Draw w) c.self.invariant.0), c.self.invariant.1 ∙ draws_spend_nothing r w x q c.draw.new.self a b free is)

pub returns : goal.returns
returns c =
    let r = race c.self.inside.prices.items c.self.inside.count c.self.inside.workers.items in
    let w = c.args.worker in
    let x = c.index.result.now in
    let q = c.index_mut.result.now in
    let h = c.index.ensures in
    let v = c.index_mut.ensures.value in
    let a : slice_get c.self.inside.workers.items w ≡ Some x = grind (arith, slice_get_read {X = Worker}) in
    let b : slice_get c.self.inside.workers.items w ≡ Some q = grind (arith, slice_get_read {X = Worker}) in
    let free : x.state ≡ Free = sym c.state.ensures ∙ c.in-Free.is in
    let all : c.len-chunks.result ≡ length c.self.inside.prices.items = omega arith in
    let is : c.draw.new.self ≡ worker q.number q.done (state_after (length r.prices) r.count) = c.draw.ensures ∙ ap (λ (k : ℕ). worker q.number q.done (state_after k c.self.inside.count)) all in
    sym (draws_free r w x q c.draw.new.self a b free is) ∙ ap (λ (s : RaceState). after_event s (Draw w)) c.self.view_is
