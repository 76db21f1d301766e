use Rattle.std.proofs.Common.{length}
use Rattle.matrix_market.proofs.Repeated.{Walk}
use Rattle.matrix_market.proofs.repeat.line_of_repeat.Given as goal

abbrev pub invariant-loop-found : goal.invariant-loop-found
invariant-loop-found l = Walk l.fn.header l.start l.repeats l.cursor.rest.now l.cursor.at

abbrev pub decreases-loop-found : goal.decreases-loop-found
decreases-loop-found l = length l.cursor.rest.now
