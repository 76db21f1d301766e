use Rattle.std.proofs.Common.{◌≤◌, ◌*◌, length, vec_capacity}
use Rattle.csr_store.proofs.ByBits.{Copying}
use Rattle.csr_store.proofs.column.Column.of.Given as goal

abbrev pub invariant-loop-k : goal.invariant-loop-k
invariant-loop-k l = record {
  copying : Copying l.column l.k l.words.items l.bits.items l.full;
  capacity : l.column.rows ≤ vec_capacity l.words;
  wide : l.column.rows ≤ 64 * length l.bits.items;
}
