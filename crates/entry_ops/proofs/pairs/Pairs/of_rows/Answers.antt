use Rattle.std.proofs.Common.{◌≡◌, ◌-◌, ◌∙◌, Some, ap, arith, sym, subst}
use Rattle.csr_store.specs.Along.{along}
use Rattle.csr_store.specs.Grid.{row_of}
use Rattle.csr_store.specs.Mask.{HasShape, mask_of}
use Rattle.entry_ops.specs.inner.Paired.{columns_of, pairs_in}
use Rattle.entry_ops.proofs.Paired.{AreAsLong, in_step, all_pairs}
use Rattle.entry_ops.proofs.pairs.Pairs.of_rows.Goals as goal

pub returns-clause-pairs : goal.returns-clause-pairs
returns-clause-pairs c =
    let a = c.args.sources.left.now in
    let b = c.in-Some-None.b.now in
    let first = c.args.range.start in
    let n = c.args.range.end - first in
    let order = c.requires.range in
    let right : mask_of c.args.sources.right ≡ Some b = ap mask_of c.in-Some-None.is-0 in
    let long : AreAsLong a b first n = λ i l u. c.are_as_long.ensures c.if-not-are_as_long.false i l (omega (arith, u, order)) in
    let left_cells = c.cells_of-left.ensures in
    let right_cells = c.cells_of-right.ensures in
    record {
      other = b;
      right = right;
      mask = ap mask_of c.in-Some-None.is-1;
      in_step = in_step a b first n long (ap columns_of (sym left_cells)
          ∙ (c.have_same_columns.ensures c.if-not-have_same_columns.false ∙ ap columns_of right_cells));
      grids = (c.recall.ensures, c.recall-2.ensures);
      columns = (subst (HasShape a.rows a.columns) right c.requires.alike.right).1;
      all = ap (λ cs. pairs_in cs c.cells_of-right.result.now) left_cells
          ∙ (ap (pairs_in (along (row_of a) first n)) right_cells ∙ all_pairs a b first n long);
    }
