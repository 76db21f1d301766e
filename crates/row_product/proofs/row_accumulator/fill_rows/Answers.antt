use Rattle.std.proofs.Common.{◌-◌, ◌+◌, ◌∷◌, ◌++◌, [], ap, ◌∙◌, arith, rules}
use Rattle.bpf_run.proofs.Charging.{spends-start, spends-step, spends-stop, spends-end}
use Rattle.csr_store.specs.Along.{along}
use Rattle.csr_store.specs.Run.{Row, Run}
use Rattle.csr_store.proofs.Along.{along-next, along-over, fills-start, fills-step, fills-end}
use Rattle.csr_store.proofs.ByRow.{row_start-next}
use Rattle.csr_store.proofs.Filling.{on_err}
use Rattle.job_forms.proofs.Counting.{start_few}
use Rattle.row_product.specs.inner.Masked.{row_of_product, calls_of_row, calls_of_rows}
use Rattle.row_product.proofs.row_accumulator.fill_rows.Goals as goal

pub loop-i-init : goal.loop-i-init
loop-i-init g c =
    let b = c.requires.begun in
    record {
      fills = fills-start (row_of_product c.args.factors.now) c.args.range.start c.args.range.end c.args.making.now.rows
          b.none_open;
      spends = spends-start (calls_of_rows c.args.factors.now c.args.range.start (c.args.range.end - c.args.range.start))
          c.args.making.now.steps;
      few = omega arith;
      ready = c.requires.ready;
    }

pub fill_row-requires-clause-next : goal.fill_row-requires-clause-next
fill_row-requires-clause-next g c =
    let a = c.args.factors.now.a.now in
    let i = c.loop-i.invariant in
    let f = i.few in
    let n = row_start-next a c.loop-i.i in
    let w = start_few a (c.loop-i.i + 1) c.requires.begun.factors.a_grid in
    let b = c.requires.begun.within in
    record {
      factors = c.requires.begun.factors;
      row = omega arith;
      columns = ap (λ (u : Run). u.columns) i.fills.run ∙ c.requires.begun.columns;
      none_open = i.fills.closed;
      capacity = omega (arith, f, n, w);
    }

pub returns-in_err-fill_row-clause-rows : goal.returns-in_err-fill_row-clause-rows
returns-in_err-fill_row-clause-rows g c =
    let calls = calls_of_row c.args.factors.now in
    let first = c.args.range.start in
    let to = c.args.range.end in
    let i = c.loop-i.i in
    record {
      rows = search rules;
      steps = search rules;
      spent = on_err c.from_residual.result
          (spends-stop (along calls first (to - first)) c.args.making.now.steps (along calls i (to - i)) c.loop-i.making.steps
          (calls i)
          (along calls (i + 1) (to - (i + 1))) c.fill_row.new.making.steps c.loop-i.invariant.spends
          (along-next calls i to c.loop-i-test.true) c.in_err-fill_row.ensures.row.adds.spent);
    }

pub loop-i-preserved : goal.loop-i-preserved
loop-i-preserved g c =
    let calls = calls_of_row c.args.factors.now in
    let row = row_of_product c.args.factors.now in
    let first = c.args.range.start in
    let to = c.args.range.end in
    let i = c.loop-i.i in
    let now = c.loop-i.making.rows in
    let h = c.loop-i.invariant in
    let added = c.in_ok-fill_row.ensures.row in
    let f = h.few in
    let k = added.little in
    let n = row_start-next c.args.factors.now.a.now i in
    record {
      fills = fills-step row first to c.args.making.now.rows i now c.fill_row.new.making.rows h.fills c.loop-i-test.true
          (added.adds.rows ∙ ap (λ (os : Row). record now { ended = now.ended ++ row i ∷ []; opened = os }) h.fills.closed);
      spends = spends-step (along calls first (to - first)) c.args.making.now.steps (along calls i (to - i)) c.loop-i.making.steps
          (calls i) (along calls (i + 1) (to - (i + 1))) c.fill_row.new.making.steps h.spends
          (along-next calls i to c.loop-i-test.true) added.adds.steps;
      few = omega (arith, f, k, n);
      ready = c.in_ok-fill_row.ensures.ready;
    }

pub returns-clause-rows : goal.returns-clause-rows
returns-clause-rows g c =
    let f = c.args.factors.now in
    let to = c.args.range.end in
    let i = c.loop-i.i in
    let over = c.loop-i-test.false in
    record {
      rows = c.trim.ensures ∙ fills-end (row_of_product f) c.args.range.start to c.args.making.now.rows i c.loop-i.making.rows
          c.loop-i.invariant.fills (omega (arith, over));
      steps = spends-end (calls_of_rows f c.args.range.start (to - c.args.range.start)) c.args.making.now.steps
          (calls_of_rows f i (to - i)) c.loop-i.making.steps c.loop-i.invariant.spends
          (along-over (calls_of_row f) i to (omega (arith, over)));
      spent = tt;
    }
