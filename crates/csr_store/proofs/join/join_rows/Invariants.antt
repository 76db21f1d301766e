use Rattle.std.proofs.Common.{◌≡◌, take}
use Rattle.std.specs.List.{AllByRecursion}
use Rattle.csr_store.specs.ByRows.{ends_of}
use Rattle.csr_store.specs.Run.{all_ended}
use Rattle.csr_store.specs.inner.Run.{AreClosed, IsRow, ended_rows}
use Rattle.csr_store.proofs.join.join_rows.Given as goal

abbrev pub invariant-loop-piece : goal.invariant-loop-piece
invariant-loop-piece l = record {
  closed : AreClosed l.starts.items l.cells.items;
  listed : ended_rows 0 (ends_of l.starts.items) l.cells.items ≡ all_ended (take l.piece-index l.piece-items);
  are_rows : AllByRecursion (λ q. IsRow l.columns q) (all_ended (take l.piece-index l.piece-items));
}
