use Rattle.std.proofs.Common.{◌≡◌, length, drop}
use Rattle.row_product.specs.inner.Adding.{written}
use Rattle.row_product.proofs.additions.write.Given as goal

abbrev pub invariant-loop-k : goal.invariant-loop-k
invariant-loop-k l = record {
  left : written l.sums (drop l.k l.columns) (drop l.k l.values) ≡ written l.fn.sums l.columns l.values;
  long : length l.sums ≡ length l.fn.sums;
}
