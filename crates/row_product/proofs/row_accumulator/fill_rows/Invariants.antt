use Rattle.std.proofs.Common.{◌≤◌, ◌*◌, ◌-◌}
use Rattle.csr_store.specs.Grid.{limit, row_start}
use Rattle.csr_store.proofs.Along.{Fills}
use Rattle.bpf_run.proofs.Charging.{Spends}
use Rattle.row_product.specs.inner.Masked.{row_of_product, calls_of_rows}
use Rattle.row_product.proofs.row_accumulator.fill_rows.Given as goal

abbrev pub invariant-loop-i : goal.invariant-loop-i
invariant-loop-i g l = record {
  fills : Fills (row_of_product l.factors) l.fn.range.start l.fn.range.end l.fn.making.rows l.i l.making.rows;
  spends : Spends (calls_of_rows l.factors l.fn.range.start (l.fn.range.end - l.fn.range.start)) l.fn.making.steps
      (calls_of_rows l.factors l.i (l.fn.range.end - l.i)) l.making.steps;
  few : l.making.steps ≤ 8192 * limit * row_start l.factors.a.now l.i;
  ready : g.R.RowAccumulator.is_ready l.factors.b.now.columns l.accumulator;
}
