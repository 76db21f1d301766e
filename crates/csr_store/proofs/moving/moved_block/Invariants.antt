use Rattle.std.proofs.Common.{◌≡◌, length, map, take}
use Rattle.csr_store.specs.inner.Moved.{moved}
use Rattle.csr_store.proofs.moving.moved_block.Given as goal

abbrev pub invariant-loop-nth : goal.invariant-loop-nth
invariant-loop-nth l = (length l.block ≡ 16) × (take l.nth l.block ≡ map (moved l.distance) (take l.nth l.ends))
