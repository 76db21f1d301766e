use Rattle.std.proofs.Common.{arith}
use Rattle.row_product.specs.inner.Sums.{slot}
use Rattle.row_product.proofs.Bits.{reading_step, reading_end}
use Rattle.row_product.proofs.emit.emit_marked.Goals as goal

pub loop-left-preserved : goal.loop-left-preserved
loop-left-preserved c = record {
  reading = reading_step c.args.rows.now.columns (slot c.args.dense.now) c.args.rows.now _ c.loop-left.next c.loop-left.left
      c.loop-left.rows c.put_sum.new.rows c.loop-left.invariant.reading c.loop-left-test.true c.in_ok-put_sum.ensures;
  narrow = let n = c.loop-left.invariant.narrow in omega (arith, n);
}

pub overflow_shr-left : goal.overflow_shr-left
overflow_shr-left c =
    let n = c.loop-left.invariant.narrow in
    let t = c.loop-left-test.true in
    omega (arith, n, t)

pub loop-next-preserved : goal.loop-next-preserved
loop-next-preserved c =
    let m = c.min.ensures in
    let w = c.loop-next.invariant.within in
    let z = c.loop-next.invariant.aligned c.loop-next-test.true in
    record {
      putting = reading_end c.args.rows.now.columns (slot c.args.dense.now) c.args.rows.now _ c.loop-left.next c.loop-left.left
          c.loop-left.rows c.loop-left.invariant.reading c.loop-left-test.false;
      within = omega (arith, m, w);
      aligned = λ l. omega (arith, m, w, z, l);
    }
