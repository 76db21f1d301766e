use Rattle.std.proofs.Common.{◌≡◌}
use Rattle.operator_tests.proofs.calls.lanes.gather_all.Given as goal

abbrev pub invariant-loop-one : goal.invariant-loop-one
invariant-loop-one l = l.calls.kind ≡ l.kind
