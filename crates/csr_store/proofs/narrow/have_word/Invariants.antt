use Rattle.std.proofs.Common.{take}
use Rattle.csr_store.specs.inner.Narrow.{HaveWord}
use Rattle.csr_store.proofs.narrow.have_word.Given as goal

abbrev pub invariant-loop-cell : goal.invariant-loop-cell
invariant-loop-cell l = HaveWord l.word (take l.cell-index l.cells)
