use Rattle.std.proofs.Common.{◌<◌, ℕ, List, Option, IfSome, length, sym, ap, subst, arith}
use Rattle.std.specs.List.{AllByRecursion}
use Rattle.csr_store.specs.Grid.{Cell, row_of}
use Rattle.job_forms.proofs.Counting.{row_few, row_within}
use Rattle.row_product.specs.inner.Column.{IsSummed}
use Rattle.row_product.specs.inner.StandIn.{StandsOnLeft, cells_with}
use Rattle.row_product.proofs.StandIn.{length_with, rows_with, row_on_left, summed_as}
use Rattle.row_product.proofs.fused.sum_listed.Goals as goal

pub sum_columns-requires-clause-row : goal.sum_columns-requires-clause-row
sum_columns-requires-clause-row g c =
    let f = c.args.factors.now in
    let x = c.in_ok-x.x in
    let row = row_of f.a.now c.args.i in
    let h = c.requires.row.factors in
    let w = row_few f.a.now c.args.i h.a_grid in
    let n = length_with x row in
    let e = ap (λ (js : List ℕ). length (cells_with x js)) c.in_ok-columns.ensures in
    record {
      factors = h;
      named = record {
        column = c.requires.column;
        rows = subst (λ (js : List ℕ). AllByRecursion (λ (d : Cell). d.0 < f.b.now.rows) (cells_with x js)) (sym c.in_ok-columns.ensures)
            (rows_with f.b.now.rows x row (row_within f.a.now c.args.i f.b.now.rows h.a_grid h.shapes));
      };
      few = omega (arith, w, n, e);
    }

pub returns : goal.returns
returns g c =
    let f = c.args.factors.now in
    let x = c.in_ok-x.x in
    let made = c.sum_columns.result in
    let stands = subst (λ (o : Option ℕ). IfSome o (StandsOnLeft f.mul.now f.a.now)) c.in_ok-x.was c.requires.row.factors.left in
    summed_as f x (row_of f.a.now c.args.i) made.sum made.steps (row_on_left f.mul.now f.a.now c.args.i x stands)
    (subst (λ (js : List ℕ). IsSummed f (cells_with x js) made.sum made.steps) c.in_ok-columns.ensures c.sum_columns.ensures)
