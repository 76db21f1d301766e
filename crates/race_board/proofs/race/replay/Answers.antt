use Rattle.std.proofs.Common.{arith, take, sym, subst}
use Rattle.race_board.specs.inner.Balance.{IsRun}
use Rattle.race_board.proofs.Sums.{prices_sum}
use Rattle.race_board.proofs.Events.{replayed_runs}
use Rattle.race_board.proofs.Lawful.{run_is_lawful, run_in_place}
use Rattle.race_board.proofs.race.replay.Goals as goal

pub returns-clause-lawful : goal.returns-clause-lawful
returns-clause-lawful c =
    let e = prices_sum c.args.prices.items in
    let a = c.requires.prices in
    run_is_lawful c.loop-event.race (subst IsRun (sym c.loop-event.invariant) (replayed_runs c.args.prices.items c.args.workers (take c.loop-event.event-index c.args.events.now) (omega arith)))

pub returns-clause-in_place : goal.returns-clause-in_place
returns-clause-in_place c =
    let e = prices_sum c.args.prices.items in
    let a = c.requires.prices in
    run_in_place c.loop-event.race (subst IsRun (sym c.loop-event.invariant) (replayed_runs c.args.prices.items c.args.workers (take c.loop-event.event-index c.args.events.now) (omega arith)))
