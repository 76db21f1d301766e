use Rattle.std.proofs.Common.{◌≤◌}
use Rattle.step_purse.specs.Passes.{IsPassOf}
use Rattle.thread_tests.proofs.purses.work.Given as goal

abbrev pub invariant-loop-round : goal.invariant-loop-round
invariant-loop-round g l = IsPassOf l.purse l.pass × (l.spent ≤ l.round)
