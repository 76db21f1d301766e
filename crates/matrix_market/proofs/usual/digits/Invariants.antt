use Rattle.std.proofs.Common.{◌≤◌, ◌-◌, ◌+◌}
use Rattle.std.specs.List.{slice_range}
use Rattle.matrix_market.specs.inner.Usual.{Scanned}
use Rattle.matrix_market.proofs.usual.digits.Given as goal

abbrev pub invariant-loop-count : goal.invariant-loop-count
invariant-loop-count l = record {
  few : l.count ≤ 8;
  within : l.from + l.count ≤ l.last;
  scanned : Scanned (slice_range l.text l.from (l.from + l.count)) l.value;
}

abbrev pub decreases-loop-count : goal.decreases-loop-count
decreases-loop-count l = 8 - l.count
