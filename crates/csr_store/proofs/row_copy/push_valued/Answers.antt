use Rattle.std.proofs.Common.{arith, refl, length}
use Rattle.csr_store.proofs.Copied.{pushed_more, pushed_all}
use Rattle.csr_store.proofs.row_copy.push_valued.Goals as goal

pub loop-value-preserved : goal.loop-value-preserved
loop-value-preserved c =
    let at = c.loop-value.invariant.at in let t = c.loop-value-test.true in let same = c.requires.same in
    let capacity = c.loop-value.invariant.capacity in let more = c.push_reserved.ensures.capacity in
    record {
      set = pushed_more (length c.args.written.now.items) c.args.values.now _ c.loop-value.written.items c.push_reserved.new.self.items c.args.columns.now c.loop-value.value-index c.loop-value.next _ (0, 0)
          c.loop-value.invariant.set t (omega (arith, at, t, same)) refl c.push_reserved.ensures.items;
      at = omega (arith, at);
      capacity = omega (arith, capacity, more);
    }

pub returns-clause-pushed : goal.returns-clause-pushed
returns-clause-pushed c =
    let at = c.loop-value.invariant.at in let t = c.loop-value-test.false in let same = c.requires.same in
    pushed_all (length c.args.written.now.items) c.args.values.now _ c.loop-value.written.items c.args.columns.now c.loop-value.value-index c.loop-value.next c.loop-value.invariant.set
    (omega (arith, t)) (omega (arith, at, t, same))
