use Rattle.std.proofs.Common.{◌≤◌, ◌-◌, drop, length}
use Rattle.matrix_market.specs.inner.Gathering.{Adds}
use Rattle.matrix_market.proofs.gather.gather_run.Given as goal

abbrev pub invariant-loop-given : goal.invariant-loop-given
invariant-loop-given l = record {
  adds : Adds l.fn.header l.fn.list l.list l.rest 0 l.given (drop l.next l.rest) l.given;
  few : l.given ≤ l.most;
  order : l.given ≤ l.next;
  within : l.next ≤ length l.rest;
}

abbrev pub decreases-loop-given : goal.decreases-loop-given
decreases-loop-given l = l.most - l.given
