use Rattle.std.proofs.Common.{◌≡◌, ◌-◌, [], vec_capacity}
use Rattle.csr_store.proofs.Keeping.{AreRowsKept}
use Rattle.csr_store.proofs.rows.Rows.selected.Given as goal

abbrev pub invariant-loop-reader : goal.invariant-loop-reader
invariant-loop-reader l = record {
  of : l.reader.grid ≡ l.a;
  selected : AreRowsKept l.a l.range.start l.range.end l.answers [] l.reader.row l.left l.ends.items l.cells.items (vec_capacity l.cells)
      (vec_capacity l.ends);
}

abbrev pub decreases-loop-reader : goal.decreases-loop-reader
decreases-loop-reader l = l.range.end - l.reader.row
