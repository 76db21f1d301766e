use Rattle.std.proofs.Common.{◌≡◌, ◌≤◌, length}
use Rattle.bpf_insn.specs.declared.operands.Kind.TheVariants as kinds
use Rattle.bpf_verify.specs.Accepted.{Accepted}
use Rattle.row_product.proofs.Column.{Gathers}
use Rattle.row_product.proofs.column_terms.gather.Given as goal

abbrev pub invariant-loop-k : goal.invariant-loop-k
invariant-loop-k l = record {
  gathers : (mul : Accepted) → Gathers mul l.b l.cells l.k-index l.calls.operands;
  kind : l.calls.kind ≡ kinds.Binary;
  few : length l.calls.operands ≤ l.k-index;
}
