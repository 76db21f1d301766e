use Rattle.std.proofs.Common.{◌+◌, ◌++◌, ◌∷◌, [], ap, sym, subst, refl, ◌∙◌, arith}
use Rattle.csr_store.specs.Grid.{Grid, row_of}
use Rattle.csr_store.specs.Reading.{Reading}
use Rattle.csr_store.specs.Run.{Run}
use Rattle.csr_store.specs.Shown.{cells_shown}
use Rattle.csr_store.proofs.Along.{Fills, fills-start, fills-step, fills-end}
use Rattle.entry_ops.specs.inner.Shown.{row_shown}
use Rattle.entry_ops.proofs.Filling.{row_ascends}
use Rattle.entry_ops.proofs.Standing.{empty_run}
use Rattle.entry_ops.proofs.shown.copy_shown.Goals as goal

pub loop-cells-init : goal.loop-cells-init
loop-cells-init c =
    let a = c.args.masked.a.now in
    let first = c.args.range.start in
    let row = row_shown a c.args.masked.mask.now in
    let begun = empty_run first a.columns in
    let at = ap (λ (q : Reading). q.row) c.rows_from-cells.ensures in
    record {
      cells = ap (λ (q : Reading). q.grid) c.rows_from-cells.ensures;
      masks = c.rows_from-masks.ensures ∙ ap (λ k. record { grid = c.args.masked.mask.now; row = k }) (sym at);
      fills = subst (λ k. Fills row first c.args.range.end begun k c.reserve.new.self) (sym at)
          (subst (Fills row first c.args.range.end begun first)
          (sym (c.reserve.ensures ∙ (c.reserve_rows.ensures ∙ (c.begin-rows.ensures ∙ ap (empty_run first) c.columns.ensures.columns))))
          (fills-start row first c.args.range.end begun refl));
    }

pub next_row-requires : goal.next_row-requires
next_row-requires c =
    let t = c.loop-cells-test.true in
    let r = c.row.ensures in
    let w = c.requires.within in
    let g = ap (λ (g : Grid). g.rows) c.loop-cells.invariant.cells in
    omega (arith, t, r, w, g)

pub next_row-requires-in-loop-cells : goal.next_row-requires-in-loop-cells
next_row-requires-in-loop-cells c =
    let t = c.loop-cells-test.true in
    let r = c.row.ensures in
    let w = c.requires.within in
    let s = c.requires.shape.0 in
    let m = ap (λ (q : Reading). q.row) c.loop-cells.invariant.masks in
    let g = ap (λ (q : Reading). q.grid.rows) c.loop-cells.invariant.masks in
    omega (arith, t, r, w, s, m, g)

pub push_shown-requires-clause-none_open : goal.push_shown-requires-clause-none_open
push_shown-requires-clause-none_open c = c.loop-cells.invariant.fills.closed

pub push_shown-requires-clause-ascends : goal.push_shown-requires-clause-ascends
push_shown-requires-clause-ascends c =
    let a = c.args.masked.a.now in
    let mask = c.args.masked.mask.now in
    let row = c.loop-cells.cells.row in
    let columns = sym (ap (λ (r : Run). r.columns) c.loop-cells.invariant.fills.run) in (
      row_ascends a row c.loop-cells.rows.columns c.next_row.result.now c.recall.ensures columns
          (c.next_row.ensures.row ∙ ap (λ (g : Grid). row_of g row) c.loop-cells.invariant.cells),
      row_ascends mask row c.loop-cells.rows.columns c.next_row-in-loop-cells.result.now c.recall-2.ensures (c.requires.shape.1 ∙ columns)
          (c.next_row-in-loop-cells.ensures.row ∙ ap (λ (q : Reading). row_of q.grid q.row) c.loop-cells.invariant.masks),
    )

pub loop-cells-smaller : goal.loop-cells-smaller
loop-cells-smaller c =
    let t = c.loop-cells-test.true in
    let r = c.row.ensures in
    let n = ap (λ (q : Reading). q.row) c.next_row.ensures.next in
    omega (arith, t, r, n)

pub loop-cells-preserved : goal.loop-cells-preserved
loop-cells-preserved c =
    let a = c.args.masked.a.now in
    let mask = c.args.masked.mask.now in
    let row = c.loop-cells.cells.row in
    let i = c.loop-cells.invariant in
    let next = ap (λ (q : Reading). q.row) c.next_row.ensures.next in
    let t = c.loop-cells-test.true in
    let r = c.row.ensures in
    let here = ap (λ (q : Reading). row_of q.grid q.row) i.masks in
    let shown = ap (λ cells. cells_shown c.next_row-in-loop-cells.result.now cells)
    (c.next_row.ensures.row ∙ ap (λ (g : Grid). row_of g row) i.cells)
    ∙ ap (λ cells. cells_shown cells (row_of a row)) (c.next_row-in-loop-cells.ensures.row ∙ here) in
    let ended = c.in_ok-end_row.ensures.ended in
    record {
      cells = ap (λ (q : Reading). q.grid) c.next_row.ensures.next ∙ i.cells;
      masks = c.next_row-in-loop-cells.ensures.next
          ∙ (ap (λ (q : Reading). record q { row = q.row + 1 }) i.masks ∙ ap (λ k. record { grid = mask; row = k }) (sym next));
      fills = subst (λ k. Fills (row_shown a mask) c.args.range.start c.args.range.end (empty_run c.args.range.start a.columns) k
          c.end_row.new.self) (sym next)
          (fills-step (row_shown a mask) c.args.range.start c.args.range.end (empty_run c.args.range.start a.columns) row
          c.loop-cells.rows c.end_row.new.self i.fills (omega (arith, t, r))
          (ended ∙ ap (λ (r : Run). record r { ended = r.ended ++ r.opened ∷ []; opened = [] }) c.in_ok-push_shown.ensures.pushed
          ∙ ap (λ cells. record c.loop-cells.rows { ended = c.loop-cells.rows.ended ++ cells ∷ []; opened = [] }) shown));
    }

pub returns : goal.returns
returns c =
    let t = c.loop-cells-test.false in
    let r = c.row.ensures in
    c.trim.ensures ∙ fills-end _ _ _ _ _ _ c.loop-cells.invariant.fills (omega (arith, t, r))
