use Rattle.std.proofs.Common.{◌≡◌, ◌++◌, map, take}
use Rattle.csr_store.specs.inner.Moved.{moved}
use Rattle.csr_store.proofs.moving.push_each.Given as goal

abbrev pub invariant-loop-end : goal.invariant-loop-end
invariant-loop-end l = l.list.items ≡ l.fn.list.items ++ map (moved l.distance) (take l.end-index l.ends)
