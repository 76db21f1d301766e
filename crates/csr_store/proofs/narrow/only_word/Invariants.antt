use Rattle.std.proofs.Common.{take}
use Rattle.csr_store.specs.inner.Cells.{joined}
use Rattle.csr_store.specs.inner.Narrow.{HaveWord}
use Rattle.csr_store.proofs.narrow.only_word.Given as goal

abbrev pub invariant-loop-run : goal.invariant-loop-run
invariant-loop-run l = HaveWord l.word (joined (take l.run-index l.run-items))
