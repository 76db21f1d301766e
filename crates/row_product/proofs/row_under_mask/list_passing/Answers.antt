use Rattle.std.proofs.Common.{◌+◌, ap, ◌∙◌, is_some, length, arith}
use Rattle.row_product.specs.inner.Adding.{taking}
use Rattle.row_product.specs.inner.RowUnderMask.{stores}
use Rattle.row_product.proofs.Passing.{beside_further, taken_so, put_next, byte_few}
use Rattle.row_product.proofs.row_under_mask.list_passing.Goals as goal

pub loop-count-preserved : goal.loop-count-preserved
loop-count-preserved c =
    let cell = c.in-Some.cell.now in
    let more = c.in-Some.more.now in
    let cells = c.loop-count.cells.now in
    let mask = c.loop-count.mask in
    let left = c.advance_to.new.self in
    let e = c.in-Some.ensures.cases.0 in
    let l = ap length e in
    let f = c.loop-count.invariant.few in
    let t = c.loop-count-test.true in
    let one = byte_few c.is_some.result in
    let n = c.from-count.ensures in
    record {
      listed = λ whole n b.
          let i = c.loop-count.invariant.listed whole n b in
          let m = c.advance_to.ensures n i.0.order in (
            beside_further whole n cells mask cell more left i.0 e m.0 m.1,
            put_next c.loop-count.passing c.loop-count.count _ cell (taking (stores whole) cells) (taking (stores whole) more) _
                c.is_some.result (ap (λ k. c.loop-count.count + k) c.from-count.ensures) (omega arith)
                (taken_so whole n cells mask cell more left i.0 e m.1 c.is_some.result
                (c.is_some.ensures ∙ ap is_some (c.word_at.ensures n m.0))) i.1,
          );
      few = omega (arith, l, f, one, n);
      most = omega (arith, t, one, n);
    }
