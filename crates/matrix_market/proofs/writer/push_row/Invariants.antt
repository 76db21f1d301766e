use Rattle.std.proofs.Common.{◌≡◌, ◌<◌, ◌++◌, All, length}
use Rattle.csr_store.specs.Grid.{Cell, at_row, limit}
use Rattle.matrix_market.specs.CanonicalText.{entry_lines}
use Rattle.matrix_market.proofs.writer.push_row.Given as goal

abbrev pub invariant-loop-left : goal.invariant-loop-left
invariant-loop-left l = record {
  columns : All (λ (c : Cell). c.0 < limit) l.left;
  same : l.out.items ++ entry_lines (at_row l.row l.left) ≡ l.fn.out.items ++ entry_lines (at_row l.row l.cells);
}

abbrev pub decreases-loop-left : goal.decreases-loop-left
decreases-loop-left l = length l.left
