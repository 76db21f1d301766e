use Rattle.std.proofs.Common.{get_or, drop, ◌+◌, ap, arith}
use Rattle.std.proofs.lemmas.List.{drop_more}
use Rattle.row_product.specs.inner.Adding.{taking}
use Rattle.row_product.specs.inner.Sums.{flag}
use Rattle.row_product.proofs.Parts.{ascends_at}
use Rattle.row_product.proofs.Passing.{put_next, byte_few}
use Rattle.row_product.proofs.progress.choose.Goals as goal

pub bounds-allowed-cell : goal.bounds-allowed-cell
bounds-allowed-cell c = ascends_at 0 _ c.args.cells.now c.loop-cell.cell-index (0, 0) c.requires.within c.loop-cell-test.true

pub loop-cell-preserved : goal.loop-cell-preserved
loop-cell-preserved c =
    let t = flag c.args.allowed.now in
    let cells = c.args.cells.now in
    let i = c.loop-cell.cell-index in
    let passes = t (get_or cells i (0, 0)).0 in
    let few = c.loop-cell.invariant.few in
    let capacity = c.requires.capacity in
    let one = byte_few passes in
    let e = c.from-count.ensures in
    record {
      chosen = put_next c.loop-cell.passing c.loop-cell.count _ (get_or cells i (0, 0)) (taking t (drop i cells))
          (taking t (drop (i + 1) cells)) (taking t cells) passes (ap (λ n. c.loop-cell.count + n) e) (omega (arith, few, capacity))
          (ap (taking t) (drop_more cells i (0, 0) c.loop-cell-test.true)) c.loop-cell.invariant.chosen;
      few = omega (arith, few, one, e);
    }
