use Rattle.std.proofs.Common.{◌<◌, ◌≤◌, List, length, subst, refl, sym, ◌∙◌, arith, rules}
use Rattle.std.specs.List.{AllByRecursion}
use Rattle.bpf_run.proofs.Charging.{charges-none}
use Rattle.csr_store.specs.Grid.{Cell, limit}
use Rattle.csr_store.proofs.Filling.{on_err}
use Rattle.job_forms.proofs.Counting.{row_few, row_within}
use Rattle.row_product.proofs.Ending.{adds_closed}
use Rattle.row_product.proofs.sorted_accumulator.SortedAccumulatorRowAccumulator.fill_row.Goals as goal

pub returns-then-not-is_open-clause-row : goal.returns-then-not-is_open-clause-row
returns-then-not-is_open-clause-row c =
    adds_closed c.args.factors.now c.args.i c.args.making.now _ c.end_row.result c.requires.next
    (sym c.is_open.ensures ∙ c.if-not-is_open.true) refl c.end_row.ensures.ended

pub mults_in_row-terms-requires-clause-within : goal.mults_in_row-terms-requires-clause-within
mults_in_row-terms-requires-clause-within c =
    subst (λ (row : List Cell). AllByRecursion (λ (d : Cell). d.0 < c.args.factors.now.b.now.rows) row) (sym c.row.ensures)
    (row_within c.args.factors.now.a.now c.args.i c.args.factors.now.b.now.rows c.requires.next.factors.a_grid
    c.requires.next.factors.shapes)

pub mults_in_row-terms-requires-clause-few : goal.mults_in_row-terms-requires-clause-few
mults_in_row-terms-requires-clause-few c =
    subst (λ (row : List Cell). length row ≤ limit) (sym c.row.ensures)
    (row_few c.args.factors.now.a.now c.args.i c.requires.next.factors.a_grid)

pub returns-in_err-make_room-clause-row : goal.returns-in_err-make_room-clause-row
returns-in_err-make_room-clause-row c = record {
  adds = record {
    rows = search rules;
    steps = search rules;
    spent = on_err c.from_residual.result (charges-none _ c.args.making.now.steps);
  };
  little = omega arith;
}
