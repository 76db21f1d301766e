use Rattle.std.proofs.Common.{◌≡◌, ◌<◌, ℕ, true, get_or}
use Rattle.entry_ops.proofs.pairs.have_same_columns.Given as goal

abbrev pub invariant-loop-cell : goal.invariant-loop-cell
invariant-loop-cell l = record {
  next : l.next ≡ l.cell-index;
  are : l.same ≡ true → (k : ℕ) → k < l.cell-index → (get_or l.left k (0, 0)).0 ≡ (get_or l.right k (0, 0)).0;
}
