use Rattle.std.proofs.Common.{◌<◌, List, length, sym, ap, subst, arith}
use Rattle.std.specs.List.{AllByRecursion}
use Rattle.csr_store.specs.Grid.{Cell}
use Rattle.job_forms.proofs.Counting.{row_few, row_within}
use Rattle.row_product.specs.inner.Column.{IsSummed}
use Rattle.row_product.proofs.one_column.Summing.fill_open.Goals as goal

pub sum_cells-summed-requires-clause-row : goal.sum_cells-summed-requires-clause-row
sum_cells-summed-requires-clause-row c =
    let f = c.args.factors.now in
    let next = c.requires.next.next in
    let w = row_few f.a.now c.args.i next.factors.a_grid in
    let e = ap length c.row.ensures in
    record {
      factors = next.factors;
      named = record {
        column = c.requires.next.column;
        rows = subst (λ (row : List Cell). AllByRecursion (λ (d : Cell). d.0 < f.b.now.rows) row) (sym c.row.ensures)
            (row_within f.a.now c.args.i f.b.now.rows next.factors.a_grid next.factors.shapes);
      };
      few = omega (arith, w, e);
    }

pub end_summed-requires-clause-summed : goal.end_summed-requires-clause-summed
end_summed-requires-clause-summed c =
    subst (λ (row : List Cell). IsSummed c.args.factors.now row c.sum_cells-summed.result.sum c.sum_cells-summed.result.steps)
    c.row.ensures c.sum_cells-summed.ensures.summed
