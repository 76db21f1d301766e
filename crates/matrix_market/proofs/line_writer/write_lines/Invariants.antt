use Rattle.std.proofs.Common.{◌≡◌, ◌≤◌, ◌+◌, ◌*◌, length, drop}
use Rattle.csr_store.specs.Grid.{at_row}
use Rattle.matrix_market.specs.CanonicalText.{entry_lines}
use Rattle.matrix_market.proofs.line_writer.write_lines.Given as goal

abbrev pub invariant-loop-left : goal.invariant-loop-left
invariant-loop-left l = record {
  few : l.left ≤ length l.cells;
  above : l.left * 40 + 16 ≤ l.start;
  within : l.start ≤ 2576;
  written : drop l.start l.buffer ≡ entry_lines (at_row l.label.row (drop l.left l.cells));
}

abbrev pub decreases-loop-left : goal.decreases-loop-left
decreases-loop-left l = l.left
