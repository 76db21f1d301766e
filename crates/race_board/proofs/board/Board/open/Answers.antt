use Rattle.std.proofs.Common.{arith}
use Rattle.race_board.proofs.Sums.{prices_sum}
use Rattle.race_board.proofs.Steps.{opens}
use Rattle.race_board.proofs.board.Board.open.Goals as goal

pub of_words-requires : goal.of_words-requires
of_words-requires g c =
    let e = prices_sum (g.P.PricedChunks.prices c.args.prices) in
    let n = c.count-chunks.ensures.few in
    let a = c.requires.prices in
    opens (record { prices = c.of.result; workers = c.args.workers })
    (rw c.of.ensures (omega (arith, n)), rw c.of.ensures (omega (arith, e, a)), c.requires.workers.1)
