use Rattle.std.proofs.Common.{◌≡◌, ◌-◌, []}
use Rattle.csr_store.proofs.Along.{Fills}
use Rattle.entry_ops.specs.inner.Shown.{row_shown}
use Rattle.entry_ops.proofs.shown.copy_shown.Given as goal

abbrev pub invariant-loop-cells : goal.invariant-loop-cells
invariant-loop-cells l = record {
  cells : l.cells.grid ≡ l.masked.a.now;
  masks : l.masks ≡ record { grid = l.masked.mask.now; row = l.cells.row };
  fills : Fills (row_shown l.masked.a.now l.masked.mask.now) l.range.start l.range.end
      (record { first = l.range.start; columns = l.masked.a.now.columns; ended = []; opened = [] }) l.cells.row l.rows;
}

abbrev pub decreases-loop-cells : goal.decreases-loop-cells
decreases-loop-cells l = l.range.end - l.cells.row
