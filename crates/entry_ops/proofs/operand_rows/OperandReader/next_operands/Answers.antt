use Rattle.std.proofs.Common.{◌≡◌, refl, sym, ap, subst, ◌∙◌}
use Rattle.std.specs.Option.{option_map}
use Rattle.csr_store.specs.Grid.{row_of}
use Rattle.csr_store.specs.Mask.{mask_of}
use Rattle.csr_store.specs.Reading.{Reading}
use Rattle.csr_store.specs.Ascending.{Ascends, AscendsIn}
use Rattle.entry_ops.specs.inner.Walking.{cells_of, cells_or_none, mask_row, row_or_none}
use Rattle.entry_ops.proofs.Filling.{row_ascends, line_is, same_cells, same_calls}
use Rattle.entry_ops.proofs.Beside.{read-row, read-cells, cells-ascend, mask-ascends}
use Rattle.entry_ops.proofs.operand_rows.OperandReader.next_operands.Goals as goal

pub returns-clause-sides : goal.returns-clause-sides
returns-clause-sides c =
    let a = c.args.sources.left.now in
    let b = mask_of c.args.sources.right in
    let m = mask_of c.args.sources.mask in
    let left : c.next_row.result.now ≡ row_of a c.args.row =
    c.next_row.ensures.row ∙ ap (λ (q : Reading). row_of q.grid q.row) c.requires.read.left in
    let right : c.cells_or_none.result.now ≡ row_or_none b c.args.row =
    c.cells_or_none.ensures
    ∙ (ap cells_or_none (c.next_of.ensures.cells
    ∙ (ap (option_map (λ (r : Reading). row_of r.grid r.row)) c.requires.read.right ∙ read-row c.args.row a.rows a.columns b))
    ∙ read-cells c.args.row a.rows a.columns b) in
    let mask : cells_of c.next_of-2.result ≡ mask_row m c.args.row =
    c.next_of-2.ensures.cells
    ∙ (ap (option_map (λ (r : Reading). row_of r.grid r.row)) c.requires.read.mask ∙ read-row c.args.row a.rows a.columns m) in
    record {
      columns = c.columns.ensures.columns;
      ascends = line_is _ _ c.columns.ensures.columns
          (row_ascends a c.args.row _ _ c.columns.ensures.is_grid refl left)
          (subst (Ascends 0 a.columns) (sym right) (cells-ascend c.args.row a.rows a.columns b c.requires.read.alike.right c.requires.read.right_grid))
          (subst (AscendsIn a.columns) (sym mask) (mask-ascends c.args.row a.rows a.columns m c.requires.read.alike.mask c.requires.read.mask_grid));
      cells = λ form f. same_cells form f a b m c.args.row _ _ _ _ _ refl c.columns.ensures.columns left right mask;
      calls = λ form f. same_calls form f a b m c.args.row _ _ _ _ _ refl c.columns.ensures.columns left right mask;
    }
