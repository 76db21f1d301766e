use Rattle.csr_store.specs.inner.Moved.{moved}
use Rattle.csr_store.proofs.Moved.{block_joined}
use Rattle.csr_store.proofs.moving.push_moved.Goals as goal

pub loop-rest-preserved : goal.loop-rest-preserved
loop-rest-preserved c =
    block_joined (moved c.args.distance) 16 c.loop-rest.list.items c.loop-rest.rest.now _ c.extend_from_slice.new.self.items
    c.moved_block.result c.split_at.result.0.now c.split_at.result.1.now c.loop-rest.invariant
    c.in_ok-extend_from_slice.ensures.items c.moved_block.ensures c.split_at.ensures.front c.split_at.ensures.back
