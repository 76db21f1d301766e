use Rattle.std.proofs.Common.{◌≡◌, ◌<◌, ◌++◌, List, length, not, take, subst, sym, ap, ◌∙◌, refl, arith, rules}
use Rattle.std.proofs.lemmas.List.{take-append-drop, length-append}
use Rattle.std.specs.List.{AllByRecursion}
use Rattle.bpf_run.specs.Calls.{calls_on, pairs_with}
use Rattle.bpf_run.proofs.Charging.{Spends, charges-none, charges-all, spends-start, spends-step, spends-stop, spends-end}
use Rattle.csr_store.specs.Grid.{Cell, row_of}
use Rattle.csr_store.specs.Run.{Run}
use Rattle.csr_store.proofs.Along.{Ascends, row_of-ascends}
use Rattle.csr_store.proofs.Filling.{on_err}
use Rattle.job_forms.proofs.Counting.{row_few}
use Rattle.row_product.specs.inner.Single.{multiplied, IsBehind}
use Rattle.row_product.proofs.Ending.{adds_ended}
use Rattle.row_product.proofs.Filling.{no_length}
use Rattle.row_product.proofs.Multiplying.{Pushing, pushing_start, pushing_part, pushing_end, behind_first, calls_by_parts}
use Rattle.row_product.proofs.single.push_row.Goals as goal

pub returns-in_err-reserve-clause-row : goal.returns-in_err-reserve-clause-row
returns-in_err-reserve-clause-row c = record {
  rows = search rules;
  steps = search rules;
  spent = on_err c.from_residual.result (charges-none _ c.args.making.now.steps);
}

pub loop-cells-init : goal.loop-cells-init
loop-cells-init c =
    let mul = c.args.factors.now.mul.now in
    let x = c.args.x in
    let b = c.args.factors.now.b.now in
    let row = row_of b c.args.k in
    let from = c.args.making.now.rows in
    let e = c.row-cells.ensures in
    let l = ap length e in
    let n : b.columns ≡ from.columns = sym c.requires.columns in
    let behind : IsBehind from.columns from.opened row = record {
      low = 0;
      below = subst (AllByRecursion (λ (d : Cell). d.0 < 0)) (sym c.requires.none_open) tt;
      ascends = subst (λ w. Ascends 0 w row) n (row_of-ascends b c.args.k c.requires.factors.b_grid);
    } in
    record {
      pushing = subst (λ us. Pushing from (multiplied mul x row) c.reserve.new.self us (multiplied mul x us)) (sym e)
          (subst (λ r. Pushing from (multiplied mul x row) r row (multiplied mul x row)) (sym c.reserve.ensures)
          (pushing_start from (multiplied mul x row) row behind));
      spends = subst (λ us. Spends (calls_on mul (pairs_with x row)) c.args.making.now.steps (calls_on mul (pairs_with x us))
          c.args.making.now.steps) (sym e) (spends-start (calls_on mul (pairs_with x row)) c.args.making.now.steps);
      few = omega (arith, l);
      sums = refl;
    }

pub returns-in_err-push_products-clause-row : goal.returns-in_err-push_products-clause-row
returns-in_err-push_products-clause-row c =
    let mul = c.args.factors.now.mul.now in
    let x = c.args.x in
    let cs = c.split_at.result.0.now in
    let ds = c.split_at.result.1.now in
    let parts : c.loop-cells.cells.now ≡ cs ++ ds =
    sym (ap (λ us. us ++ ds) c.split_at.ensures.front
    ∙ (ap (λ us. take c.min.result c.loop-cells.cells.now ++ us) c.split_at.ensures.back
    ∙ take-append-drop c.min.result c.loop-cells.cells.now)) in
    record {
      rows = search rules;
      steps = search rules;
      spent = on_err c.from_residual-in_err-push_products.result (spends-stop _ c.args.making.now.steps _ c.loop-cells.making.steps
          (calls_on mul (pairs_with x cs)) (calls_on mul (pairs_with x ds)) _ c.loop-cells.invariant.spends
          (ap (λ us. calls_on mul (pairs_with x us)) parts ∙ calls_by_parts mul x cs ds)
          (charges-all _ c.loop-cells.making.steps _ c.push_products.ensures.charged.steps));
    }

pub returns-in_err-push_products-clause-little : goal.returns-in_err-push_products-clause-little
returns-in_err-push_products-clause-little c =
    let cs = c.split_at.result.0.now in
    let ds = c.split_at.result.1.now in
    let parts : c.loop-cells.cells.now ≡ cs ++ ds =
    sym (ap (λ us. us ++ ds) c.split_at.ensures.front
    ∙ (ap (λ us. take c.min.result c.loop-cells.cells.now ++ us) c.split_at.ensures.back
    ∙ take-append-drop c.min.result c.loop-cells.cells.now)) in
    let p = ap length parts in
    let a = length-append cs ds in
    let n = c.push_products.ensures.charged.little in
    let f = c.loop-cells.invariant.few in
    let r = row_few c.args.factors.now.b.now c.args.k c.requires.factors.b_grid in
    omega (arith, p, a, n, f, r)

pub push_products-requires : goal.push_products-requires
push_products-requires c =
    let cs = c.split_at.result.0.now in
    let ds = c.split_at.result.1.now in
    let parts : c.loop-cells.cells.now ≡ cs ++ ds =
    sym (ap (λ us. us ++ ds) c.split_at.ensures.front
    ∙ (ap (λ us. take c.min.result c.loop-cells.cells.now ++ us) c.split_at.ensures.back
    ∙ take-append-drop c.min.result c.loop-cells.cells.now)) in
    let p = ap length parts in
    let a = length-append cs ds in
    let f = c.loop-cells.invariant.few in
    let r = row_few c.args.factors.now.b.now c.args.k c.requires.factors.b_grid in
    let left = c.requires.capacity in
    let now = c.loop-cells.making.rows in
    let m = c.loop-cells.invariant.pushing in
    let n = c.args.making.now.rows.columns in
    record {
      factors = c.requires.factors;
      few = search rules;
      capacity = omega (arith, p, a, f, r, left);
      behind = subst (λ w. IsBehind w now.opened cs) (sym (ap (λ (u : Run). u.columns) m.run))
          (behind_first n now.opened cs ds (subst (IsBehind n now.opened) parts m.behind));
    }

pub loop-cells-preserved : goal.loop-cells-preserved
loop-cells-preserved c =
    let mul = c.args.factors.now.mul.now in
    let x = c.args.x in
    let cs = c.split_at.result.0.now in
    let ds = c.split_at.result.1.now in
    let parts : c.loop-cells.cells.now ≡ cs ++ ds =
    sym (ap (λ us. us ++ ds) c.split_at.ensures.front
    ∙ (ap (λ us. take c.min.result c.loop-cells.cells.now ++ us) c.split_at.ensures.back
    ∙ take-append-drop c.min.result c.loop-cells.cells.now)) in
    let p = ap length parts in
    let a = length-append cs ds in
    let i = c.loop-cells.invariant in
    let f = i.few in
    let l = c.push_products.ensures.charged.little in
    record {
      pushing = pushing_part mul x c.args.making.now.rows (multiplied mul x (row_of c.args.factors.now.b.now c.args.k))
          c.loop-cells.making.rows c.loop-cells.cells.now cs ds c.push_products.new.making.rows i.pushing parts c.in_ok-push_products.ensures.pushed;
      spends = spends-step _ c.args.making.now.steps _ c.loop-cells.making.steps (calls_on mul (pairs_with x cs))
          (calls_on mul (pairs_with x ds)) _ i.spends (ap (λ us. calls_on mul (pairs_with x us)) parts ∙ calls_by_parts mul x cs ds)
          c.push_products.ensures.charged.steps;
      few = omega (arith, p, a, f, l);
      sums = c.push_products.ensures.sums ∙ i.sums;
    }

pub returns-clause-row : goal.returns-clause-row
returns-clause-row c =
    let mul = c.args.factors.now.mul.now in
    let x = c.args.x in
    let from = c.args.making.now in
    let row = row_of c.args.factors.now.b.now c.args.k in
    let whole = multiplied mul x row in
    let i = c.loop-cells.invariant in
    let none = no_length c.loop-cells.cells.now (sym (ap not c.is_empty.ensures) ∙ ap not c.loop-cells-test.false) in
    adds_ended whole (calls_on mul (pairs_with x row)) from c.loop-cells.making.rows _ c.end_row.result c.requires.none_open
    (pushing_end from.rows whole c.loop-cells.making.rows c.loop-cells.cells.now (multiplied mul x c.loop-cells.cells.now) i.pushing
    (ap (multiplied mul x) none) ∙ ap (λ (os : List Cell). record from.rows { opened = os ++ whole }) c.requires.none_open)
    (spends-end _ from.steps _ c.loop-cells.making.steps i.spends (ap (λ us. calls_on mul (pairs_with x us)) none))
    c.end_row.ensures.ended

pub returns-clause-little : goal.returns-clause-little
returns-clause-little c =
    let f = c.loop-cells.invariant.few in
    let r = row_few c.args.factors.now.b.now c.args.k c.requires.factors.b_grid in
    omega (arith, f, r)
