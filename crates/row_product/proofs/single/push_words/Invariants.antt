use Rattle.std.proofs.Common.{drop}
use Rattle.row_product.specs.inner.Single.{with_words}
use Rattle.row_product.proofs.Multiplying.{Pushing}
use Rattle.row_product.proofs.single.push_words.Given as goal

abbrev pub invariant-loop-k : goal.invariant-loop-k
invariant-loop-k l = Pushing l.fn.rows (with_words l.cells l.words) l.rows (drop l.k l.cells) (with_words (drop l.k l.cells)
    (drop l.k l.words))
