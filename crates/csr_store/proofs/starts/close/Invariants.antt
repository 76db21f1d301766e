use Rattle.std.proofs.Common.{◌≡◌, ◌≤◌, length}
use Rattle.csr_store.specs.inner.ByRows.{Closes}
use Rattle.csr_store.proofs.starts.close.Given as goal

abbrev pub invariant-loop : goal.invariant-loop
invariant-loop l = record { closes : Closes l.fn.ends.items l.end l.ends.items; reached : length l.ends.items ≡ l.counter; upto : l.counter ≤ l.row }
