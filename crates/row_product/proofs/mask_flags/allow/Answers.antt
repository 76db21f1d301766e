use Rattle.std.proofs.Common.{◌<◌, ◌+◌, List, length, drop, get_or, ap, arith}
use Rattle.std.proofs.lemmas.List.{drop_more, drop_all}
use Rattle.csr_store.specs.Grid.{Cell, row_of}
use Rattle.csr_store.proofs.ByRow.{cell_inside}
use Rattle.row_product.proofs.Marking.{allowing_start, allowing_step, allowing_end}
use Rattle.row_product.proofs.mask_flags.allow.Goals as goal

pub loop-cell-init : goal.loop-cell-init
loop-cell-init c =
    allowing_start c.row-row.result.now c.args.allowed.now c.requires.none

pub bounds-allowed-cell : goal.bounds-allowed-cell
bounds-allowed-cell c =
    let k = c.loop-cell.cell-index in
    let e = c.row-row.ensures in
    let l : k < length (row_of c.args.mask.now c.args.i) = let t = c.loop-cell-test.true in let n = ap length e in omega (
      arith,
      t,
      n,
    ) in
    let h = (cell_inside c.args.mask.now c.args.i k (0, 0) c.recall.ensures l).1 in
    let s = ap (λ (r : List Cell). (get_or r k (0, 0)).0) e in
    let w = c.requires.width in
    let same = c.loop-cell.auto.allowed in
    omega (arith, h, s, w, same)

pub loop-cell-preserved : goal.loop-cell-preserved
loop-cell-preserved c =
    let row = c.row-row.result.now in
    let k = c.loop-cell.cell-index in
    let e = c.row-row.ensures in
    let l : k < length (row_of c.args.mask.now c.args.i) = let t = c.loop-cell-test.true in let n = ap length e in omega (
      arith,
      t,
      n,
    ) in
    let h = (cell_inside c.args.mask.now c.args.i k (0, 0) c.recall.ensures l).1 in
    let s = ap (λ (r : List Cell). (get_or r k (0, 0)).0) e in
    let w = c.requires.width in
    let same = c.loop-cell.auto.allowed in
    let inside : (get_or row k (0, 0)).0 < length c.loop-cell.allowed = omega (arith, h, s, w, same) in
    allowing_step row (drop k row) c.loop-cell.allowed (get_or row k (0, 0)) (drop (k + 1) row) c.loop-cell.invariant (drop_more
    row k (0, 0) c.loop-cell-test.true) inside

pub returns : goal.returns
returns c =
    allowing_end c.args.mask.now c.args.i c.row-row.result.now (drop c.loop-cell.cell-index c.row-row.result.now)
    c.loop-cell.allowed c.loop-cell.invariant (drop_all c.loop-cell.cell-index c.row-row.result.now c.loop-cell-test.false)
    c.row-row.ensures
