use Rattle.std.proofs.Common.{arith, ◌≡◌, ◌<◌, Some, length, ap, ◌∙◌, sym, subst}
use Rattle.std.specs.Prelude.{slice_get, slice_index}
use Rattle.std.proofs.lemmas.List.{get_or_read}
use Rattle.std.proofs.lemmas.Option.{slice_get_read}
use Rattle.race_board.specs.declared.worker_state.WorkerState.{WorkerState}
use Rattle.race_board.specs.declared.worker_state.WorkerState.TheVariants.{Holds}
use Rattle.race_board.specs.Race.{Worker, RaceState}
use Rattle.race_board.specs.inner.Race.{may_record_by}
use Rattle.race_board.specs.inner.Balance.{IsTrueState}
use Rattle.race_board.proofs.Balances.{sound_at}
use Rattle.race_board.proofs.Replays.{may_here, may_elsewhere}
use Rattle.race_board.proofs.race.Race.may_record.Goals as goal

pub index-requires-then-held-chunk : goal.index-requires-then-held-chunk
index-requires-then-held-chunk c =
    let x = c.index.result.now in
    let h = c.index.ensures in
    let a : slice_get c.self.inside.workers.items c.args.worker ≡ Some x = grind (arith, slice_get_read {X = Worker}) in
    let held : x.state ≡ Holds c.in-Holds.held = sym c.state.ensures ∙ c.in-Holds.is in
    let low : c.in-Holds.held < length c.self.inside.prices.items =
    subst (λ (s : WorkerState). IsTrueState c.self.inside.prices.items c.self.inside.count s) held (sound_at c.self.inside.prices.items c.self.inside.count c.self.inside.workers.items c.args.worker x c.self.invariant.0.sound a).1 in
    omega arith

pub returns-then-held-chunk : goal.returns-then-held-chunk
returns-then-held-chunk c =
    let x = c.index.result.now in
    let h = c.index.ensures in
    let a : slice_get c.self.inside.workers.items c.args.worker ≡ Some x = grind (arith, slice_get_read {X = Worker}) in
    let held : x.state ≡ Holds c.in-Holds.held = sym c.state.ensures ∙ c.in-Holds.is in
    let same : c.in-Holds.held ≡ c.args.chunk = c.if-held-chunk.true in
    let ps = c.self.inside.prices.items in
    let low : c.in-Holds.held < length c.self.inside.prices.items =
    subst (λ (s : WorkerState). IsTrueState c.self.inside.prices.items c.self.inside.count s) held (sound_at c.self.inside.prices.items c.self.inside.count c.self.inside.workers.items c.args.worker x c.self.invariant.0.sound a).1 in
    let price : c.index-then-held-chunk.result.now ≡ slice_index ps c.in-Holds.held = get_or_read ps _ _ low c.index-then-held-chunk.ensures 0 in
    may_here ps c.args.chunk c.args.steps c.args.worker c.in-Holds.held c.index-then-held-chunk.result.now c.self.inside.workers.items x a held same price ∙ ap (λ (s : RaceState). may_record_by s.prices c.args.chunk c.args.steps (slice_get s.workers c.args.worker)) c.self.view_is

pub returns-else-held-chunk : goal.returns-else-held-chunk
returns-else-held-chunk c =
    let x = c.index.result.now in
    let h = c.index.ensures in
    let a : slice_get c.self.inside.workers.items c.args.worker ≡ Some x = grind (arith, slice_get_read {X = Worker}) in
    let held : x.state ≡ Holds c.in-Holds.held = sym c.state.ensures ∙ c.in-Holds.is in
    may_elsewhere c.self.inside.prices.items c.args.chunk c.args.steps c.args.worker c.in-Holds.held c.self.inside.workers.items x a held c.if-held-chunk.false ∙ ap (λ (s : RaceState). may_record_by s.prices c.args.chunk c.args.steps (slice_get s.workers c.args.worker)) c.self.view_is
