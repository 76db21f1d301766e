use Rattle.std.proofs.Common.{◌≡◌, take}
use Rattle.csr_store.specs.Columns.{columns_of}
use Rattle.csr_store.specs.inner.Cells.{joined}
use Rattle.csr_store.proofs.narrow.Narrow.of.Given as goal

abbrev pub invariant-loop-run : goal.invariant-loop-run
invariant-loop-run l = l.columns.items ≡ columns_of (joined (take l.run-index l.run-items))
