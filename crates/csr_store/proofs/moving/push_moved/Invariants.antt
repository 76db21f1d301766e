use Rattle.std.proofs.Common.{◌≡◌, ◌++◌, length, map}
use Rattle.csr_store.specs.inner.Moved.{moved}
use Rattle.csr_store.proofs.moving.push_moved.Given as goal

abbrev pub invariant-loop-rest : goal.invariant-loop-rest
invariant-loop-rest l = l.list.items ++ map (moved l.distance) l.rest ≡ l.fn.list.items ++ map (moved l.distance) l.ends

abbrev pub decreases-loop-rest : goal.decreases-loop-rest
decreases-loop-rest l = length l.rest
