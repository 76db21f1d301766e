use Rattle.std.proofs.Common.{◌≤◌, ◌+◌, length}
use Rattle.std.specs.Str.Lines.{lines}
use Rattle.matrix_market.specs.inner.Answers.{Passes}
use Rattle.matrix_market.proofs.lines.next_content.Given as goal

abbrev pub invariant-loop-line : goal.invariant-loop-line
invariant-loop-line l = record { passes : Passes l.cursor.rest.now l.cursor.at (lines l.rest) l.at; capacity : l.at + length l.rest ≤ l.cursor.at + length l.cursor.rest.now }

abbrev pub decreases-loop-line : goal.decreases-loop-line
decreases-loop-line l = length l.rest
