use Rattle.std.proofs.Common.{ap, arith}
use Rattle.std.proofs.lemmas.Option.{slice_get-get_or}
use Rattle.race_board.specs.Race.{Worker}
use Rattle.job_runner.proofs.Costs.{prices_small}
use Rattle.job_runner.proofs.board.open_board.Goals as goal

pub open-requires-clause-workers : goal.open-requires-clause-workers
open-requires-clause-workers c = let some = c.requires.0 in (omega (arith, some), c.requires.1)

pub open-requires-clause-prices : goal.open-requires-clause-prices
open-requires-clause-prices c =
    let plan = c.recall.ensures in prices_small c.args.plan.now plan.cover plan.priced plan.few

pub returns-clause-fresh : goal.returns-clause-fresh
returns-clause-fresh c = λ k d l.
    ap (λ (w : Worker). w.done) (c.in_ok-board.ensures.fresh k _ (slice_get-get_or c.in_ok-board.seats.items k d l))
