use Rattle.std.proofs.Common.{◌≤◌, ◌-◌}
use Rattle.matrix_market.specs.inner.Gathering.{Adds, nothing}
use Rattle.matrix_market.proofs.gather.gather_lines.Given as goal

abbrev pub invariant-loop-given : goal.invariant-loop-given
invariant-loop-given l = record {
  adds : Adds l.fn.header (nothing l.fn.header) l.list l.start.rest.now l.start.at l.given l.cursor.rest.now l.cursor.at;
  few : l.given ≤ l.header.size.entries;
}

abbrev pub decreases-loop-given : goal.decreases-loop-given
decreases-loop-given l = l.header.size.entries - l.given
