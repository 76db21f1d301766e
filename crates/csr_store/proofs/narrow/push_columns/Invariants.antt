use Rattle.std.proofs.Common.{◌≡◌, ◌++◌, take}
use Rattle.csr_store.specs.Columns.{columns_of}
use Rattle.csr_store.proofs.narrow.push_columns.Given as goal

abbrev pub invariant-loop-cell : goal.invariant-loop-cell
invariant-loop-cell l = l.columns.items ≡ l.fn.columns.items ++ columns_of (take l.cell-index l.cells)
