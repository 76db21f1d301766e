use Rattle.std.proofs.Common.{arith, ◌≡◌, ◌<◌, Some, List, length, ap, ◌∙◌, sym, subst}
use Rattle.std.specs.Prelude.{slice_get, Contains}
use Rattle.std.proofs.lemmas.Option.{slice_get_read}
use Rattle.race_board.specs.Race.{Worker, RaceState, IfThere, IsCompletedBy, times_completed}
use Rattle.race_board.proofs.Sums.{sum_take}
use Rattle.race_board.proofs.Events.{numbered_at}
use Rattle.race_board.proofs.race.Race.done.Goals as goal

pub loop-record-preserved : goal.loop-record-preserved
loop-record-preserved c =
    let ws = c.deref-record-items.result.now in
    let i = c.loop-record.record-index in
    let within : i < length ws = omega arith in
    let t = sum_take (times_completed c.args.chunk) ws i c.record-item.result within in
    let same = ap (times_completed c.args.chunk) c.record-item.is in
    let none = c.in_default.ensures.none in
    let before = c.loop-record.invariant in
    omega arith

pub returns-in-Some-clause-found : goal.returns-in-Some-clause-found
returns-in-Some-clause-found c =
    let ws = c.deref-record-items.result.now in
    let w = c.record-item.result in
    let i = c.loop-record.record-index in
    let within : i < length ws = omega arith in
    let is = c.record-item.is in
    let here : slice_get ws i ≡ Some w = grind (arith, slice_get_read {X = Worker}) in
    let at : slice_get c.self.inside.workers.items i ≡ Some w = ap (λ (l : List Worker). slice_get l i) (sym c.deref-record-items.ensures.value) ∙ here in
    let number : c.number.result ≡ i = c.number.ensures ∙ (numbered_at 0 i c.self.inside.workers.items w c.self.invariant.0.numbered at ∙ omega arith) in
    let found : slice_get c.self.inside.workers.items c.number.result ≡ Some w = ap (slice_get c.self.inside.workers.items) number ∙ at in
    subst (λ (s : RaceState). IsCompletedBy s.workers c.args.chunk c.number.result c.in-Some.steps) c.self.view_is
    (subst (IfThere (λ (v : Worker). Contains v.done (c.args.chunk, c.in-Some.steps))) (sym found) c.in-Some.ensures.found)
