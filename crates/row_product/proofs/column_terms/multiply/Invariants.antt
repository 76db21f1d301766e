use Rattle.std.proofs.Common.{◌≤◌, vec_capacity}
use Rattle.row_product.proofs.Column.{Multiplies}
use Rattle.row_product.proofs.column_terms.multiply.Given as goal

abbrev pub invariant-loop-k : goal.invariant-loop-k
invariant-loop-k g l = record {
  taken : Multiplies l.mul l.b l.cells l.k-index l.terms.items l.steps;
  capacity : 64 ≤ vec_capacity l.terms;
}
