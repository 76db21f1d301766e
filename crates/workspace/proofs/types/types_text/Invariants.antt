use Rattle.std.proofs.Common.{◌≡◌}
use Rattle.workspace.specs.Types as spec
use Rattle.workspace.proofs.types.types_text.Given as goal

abbrev pub invariant-loop-slot : goal.invariant-loop-slot
invariant-loop-slot l = l.text.items ≡ spec.lines_below l.operator l.slot
