use Rattle.std.proofs.Common.{◌≤◌, ◌-◌, ◌+◌}
use Rattle.std.specs.List.{slice_range}
use Rattle.matrix_market.specs.inner.Usual.{Scanned}
use Rattle.matrix_market.proofs.usual.more_digits.Given as goal

abbrev pub invariant-loop-from : goal.invariant-loop-from
invariant-loop-from l = record {
  stays : l.from ≤ l.at;
  within : l.at ≤ l.last;
  scanned : Scanned (slice_range l.text l.from l.at) l.value;
}

abbrev pub decreases-loop-from : goal.decreases-loop-from
decreases-loop-from l = l.last + 1 - l.at
