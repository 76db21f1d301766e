use Rattle.std.proofs.Common.{◌<◌, List, length, sym, ap, ◌∙◌, subst, arith}
use Rattle.std.specs.List.{AllByRecursion}
use Rattle.bpf_run.specs.Calls.{steps_of}
use Rattle.csr_store.specs.Grid.{Cell}
use Rattle.csr_store.specs.Run.{Row}
use Rattle.job_forms.proofs.Counting.{row_few, row_within}
use Rattle.row_product.specs.inner.Masked.{row_of_product, calls_of_row}
use Rattle.row_product.proofs.Column.{row_masked, calls_masked}
use Rattle.row_product.proofs.Ending.{adds_ended}
use Rattle.row_product.proofs.fused.FusedRowAccumulator.fill_row.Goals as goal

pub returns-then-not-lets_pass-clause-row : goal.returns-then-not-lets_pass-clause-row
returns-then-not-lets_pass-clause-row g c =
    let f = c.args.factors.now in
    let i = c.args.i in
    let old = c.args.making.now in
    let closed = sym c.lets_pass.ensures ∙ c.if-not-lets_pass.true in
    let none = row_masked f i c.requires.ready closed in
    let free = ap steps_of (calls_masked f i c.requires.ready closed) in
    record {
      adds = adds_ended (row_of_product f i) (calls_of_row f i) old old.rows _ c.end_row.result c.requires.next.none_open
          (ap (λ (os : Row). record old.rows { opened = os }) (c.requires.next.none_open ∙ sym none)) (omega (arith, free))
          c.end_row.ensures.ended;
      little = omega arith;
    }

pub sum_cells-summed-requires-clause-row : goal.sum_cells-summed-requires-clause-row
sum_cells-summed-requires-clause-row g c =
    let f = c.args.factors.now in
    let w = row_few f.a.now c.args.i c.requires.next.factors.a_grid in
    let e = ap length c.row-row.ensures in
    record {
      factors = c.requires.next.factors;
      named = record {
        column = c.requires.ready;
        rows = subst (λ (row : List Cell). AllByRecursion (λ (d : Cell). d.0 < f.b.now.rows) row) (sym c.row-row.ensures)
            (row_within f.a.now c.args.i f.b.now.rows c.requires.next.factors.a_grid c.requires.next.factors.shapes);
      };
      few = omega (arith, w, e);
    }

pub sum_cells-summed-requires-in-None-clause-row : goal.sum_cells-summed-requires-in-None-clause-row
sum_cells-summed-requires-in-None-clause-row g c =
    let f = c.args.factors.now in
    let w = row_few f.a.now c.args.i c.requires.next.factors.a_grid in
    let e = ap length c.row-row.ensures in
    record {
      factors = c.requires.next.factors;
      named = record {
        column = c.requires.ready;
        rows = subst (λ (row : List Cell). AllByRecursion (λ (d : Cell). d.0 < f.b.now.rows) row) (sym c.row-row.ensures)
            (row_within f.a.now c.args.i f.b.now.rows c.requires.next.factors.a_grid c.requires.next.factors.shapes);
      };
      few = omega (arith, w, e);
    }
