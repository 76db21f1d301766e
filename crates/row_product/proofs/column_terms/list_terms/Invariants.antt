use Rattle.std.proofs.Common.{◌≡◌, ◌≤◌, take, vec_capacity}
use Rattle.bpf_run.specs.Fold.{terms_of}
use Rattle.row_product.proofs.column_terms.list_terms.Given as goal

abbrev pub invariant-loop-value : goal.invariant-loop-value
invariant-loop-value l = record {
  listed : terms_of l.terms.items ≡ take l.value-index l.values;
  capacity : 64 ≤ vec_capacity l.terms;
}
