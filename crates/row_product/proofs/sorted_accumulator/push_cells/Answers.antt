use Rattle.std.proofs.Common.{◌+◌, drop, get_or}
use Rattle.std.proofs.lemmas.List.{drop_more}
use Rattle.row_product.proofs.Multiplying.{pushing_column, pushing_step}
use Rattle.row_product.proofs.sorted_accumulator.push_cells.Goals as goal

pub push-requires-clause-above : goal.push-requires-clause-above
push-requires-clause-above c =
    let cells = c.args.cells.now in
    let k = c.loop-column.column-index in
    (pushing_column _ _ c.loop-column.rows _ _ (get_or cells k (0, 0)) (drop (k + 1) cells) c.loop-column.invariant
    (drop_more cells k (0, 0) c.loop-column-test.true)).0

pub loop-column-preserved : goal.loop-column-preserved
loop-column-preserved c =
    let cells = c.args.cells.now in
    let k = c.loop-column.column-index in
    let d = drop_more cells k (0, 0) c.loop-column-test.true in
    pushing_step c.args.rows.now cells c.loop-column.rows (drop k cells) (drop k cells) (get_or cells k (0, 0))
    (get_or cells k (0, 0)).1 (drop (k + 1) cells) (drop (k + 1) cells) c.push.new.self c.loop-column.invariant d d
    c.in_ok-push.ensures.pushed
