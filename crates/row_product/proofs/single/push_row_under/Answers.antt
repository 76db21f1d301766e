use Rattle.std.proofs.Common.{◌≡◌, ◌<◌, ◌++◌, length, take, length-take, subst, sym, ap, ◌∙◌, refl, arith, rules}
use Rattle.std.proofs.lemmas.List.{length-append, with_items_is}
use Rattle.std.specs.List.{AllByRecursion}
use Rattle.bpf_run.specs.Calls.{calls_on, pairs_with}
use Rattle.bpf_run.proofs.Charging.{Spends, charges-none, charges-all, spends-start, spends-step, spends-stop}
use Rattle.csr_store.specs.Grid.{Cell, row_of}
use Rattle.csr_store.specs.Run.{Run}
use Rattle.csr_store.proofs.Along.{Ascends, row_of-ascends}
use Rattle.csr_store.proofs.Filling.{on_err}
use Rattle.job_forms.proofs.Counting.{row_few}
use Rattle.row_product.specs.inner.Adding.{taking}
use Rattle.row_product.specs.inner.RowUnderMask.{stores}
use Rattle.row_product.specs.inner.Single.{multiplied, IsBehind}
use Rattle.row_product.proofs.Multiplying.{Pushing, pushing_start, pushing_part, behind_first, calls_by_parts}
use Rattle.row_product.proofs.Parts.{taking_ascends, taking_few}
use Rattle.row_product.proofs.single.push_row_under.Goals as goal

pub returns-in_err-reserve-clause-row : goal.returns-in_err-reserve-clause-row
returns-in_err-reserve-clause-row c = record {
  rows = search rules;
  steps = search rules;
  spent = on_err c.from_residual.result (charges-none _ c.args.making.now.steps);
}

pub loop-row-init : goal.loop-row-init
loop-row-init c =
    let mul = c.args.factors.now.mul.now in
    let x = c.args.cell.1 in
    let b = c.args.factors.now.b.now in
    let t = stores c.args.stored.now in
    let row = row_of b c.args.cell.0 in
    let passing = taking t row in
    let from = c.args.making.now.rows in
    let e = c.row-cells.ensures in
    let l = ap (λ us. length (taking t us)) e in
    let n : b.columns ≡ from.columns = sym c.requires.push.columns in
    let rises = row_of-ascends b c.args.cell.0 c.requires.push.factors.b_grid in
    let behind : IsBehind from.columns from.opened passing = record {
      low = 0;
      below = subst (AllByRecursion (λ (d : Cell). d.0 < 0)) (sym c.requires.push.none_open) tt;
      ascends = subst (λ w. Ascends 0 w passing) n (taking_ascends t 0 b.columns b.columns row (omega arith) rises);
    } in
    record {
      pushing = subst (λ us. Pushing from (multiplied mul x passing) c.reserve.new.self (taking t us) (multiplied mul x
          (taking t us)))
          (sym e) (subst (λ r. Pushing from (multiplied mul x passing) r passing (multiplied mul x passing)) (sym c.reserve.ensures)
          (pushing_start from (multiplied mul x passing) passing behind));
      spends = subst (λ us. Spends (calls_on mul (pairs_with x passing)) c.args.making.now.steps
          (calls_on mul (pairs_with x (taking t us))) c.args.making.now.steps) (sym e)
          (spends-start (calls_on mul (pairs_with x passing)) c.args.making.now.steps);
      few = omega (arith, l);
      beside = rw c.new.ensures record {
        low = 0;
        ascends = subst (Ascends 0 b.columns) (sym e) rises;
        order = c.requires.order;
        same = λ j h. refl;
      };
      sums = refl;
      allowed = refl;
      capacity = c.requires.capacity;
      columns = refl;
    }

pub returns-in_err-push_products-clause-row : goal.returns-in_err-push_products-clause-row
returns-in_err-push_products-clause-row c =
    let mul = c.args.factors.now.mul.now in
    let x = c.args.cell.1 in
    let t = stores c.args.stored.now in
    let listed = c.list_passing-rest in
    let n = listed.result.1 in
    let cs = take n c.deref.result.now in
    let ds = taking t listed.result.0.cells.now in
    let next = listed.ensures.listed c.args.stored.now c.args.factors.now.b.now.columns c.loop-row.invariant.beside in
    let put = c.deref.ensures.value ∙ with_items_is c.loop-row.progress.passing listed.new.passing
    (listed.ensures.capacity ∙ c.deref_mut.ensures.len) in
    let parts : taking t c.loop-row.row.cells.now ≡ cs ++ ds = sym (ap (λ us. take n us ++ ds) put ∙ next.1) in
    record {
      rows = search rules;
      steps = search rules;
      spent = on_err c.from_residual-in_err-push_products.result (spends-stop _ c.args.making.now.steps _ c.loop-row.making.steps
          (calls_on mul (pairs_with x cs)) (calls_on mul (pairs_with x ds)) _ c.loop-row.invariant.spends
          (ap (λ us. calls_on mul (pairs_with x us)) parts ∙ calls_by_parts mul x cs ds)
          (charges-all _ c.loop-row.making.steps _ c.push_products.ensures.charged.steps));
    }

pub returns-in_err-push_products-clause-little : goal.returns-in_err-push_products-clause-little
returns-in_err-push_products-clause-little c =
    let t = stores c.args.stored.now in
    let listed = c.list_passing-rest in
    let n = listed.result.1 in
    let cs = take n c.deref.result.now in
    let ds = taking t listed.result.0.cells.now in
    let next = listed.ensures.listed c.args.stored.now c.args.factors.now.b.now.columns c.loop-row.invariant.beside in
    let put = c.deref.ensures.value ∙ with_items_is c.loop-row.progress.passing listed.new.passing
    (listed.ensures.capacity ∙ c.deref_mut.ensures.len) in
    let parts : taking t c.loop-row.row.cells.now ≡ cs ++ ds = sym (ap (λ us. take n us ++ ds) put ∙ next.1) in
    let p = ap length parts in
    let a = length-append cs ds in
    let k = c.push_products.ensures.charged.little in
    let f = c.loop-row.invariant.few in
    let w = taking_few (stores c.args.stored.now) (row_of c.args.factors.now.b.now c.args.cell.0) in
    let r = row_few c.args.factors.now.b.now c.args.cell.0 c.requires.push.factors.b_grid in
    omega (arith, p, a, k, f, w, r)

pub push_products-requires : goal.push_products-requires
push_products-requires c =
    let t = stores c.args.stored.now in
    let listed = c.list_passing-rest in
    let n = listed.result.1 in
    let cs = take n c.deref.result.now in
    let ds = taking t listed.result.0.cells.now in
    let next = listed.ensures.listed c.args.stored.now c.args.factors.now.b.now.columns c.loop-row.invariant.beside in
    let put = c.deref.ensures.value ∙ with_items_is c.loop-row.progress.passing listed.new.passing
    (listed.ensures.capacity ∙ c.deref_mut.ensures.len) in
    let parts : taking t c.loop-row.row.cells.now ≡ cs ++ ds = sym (ap (λ us. take n us ++ ds) put ∙ next.1) in
    let p = ap length parts in
    let a = length-append cs ds in
    let f = c.loop-row.invariant.few in
    let w = taking_few t (row_of c.args.factors.now.b.now c.args.cell.0) in
    let r = row_few c.args.factors.now.b.now c.args.cell.0 c.requires.push.factors.b_grid in
    let left = c.requires.push.capacity in
    let now = c.loop-row.making.rows in
    let m = c.loop-row.invariant.pushing in
    let columns = c.args.making.now.rows.columns in
    let most = listed.ensures.few in
    record {
      factors = c.requires.push.factors;
      few = omega (arith, length-take n c.deref.result.now, most);
      capacity = omega (arith, p, a, f, w, r, left);
      behind = subst (λ w. IsBehind w now.opened cs) (sym (ap (λ (u : Run). u.columns) m.run))
          (behind_first columns now.opened cs ds (subst (IsBehind columns now.opened) parts m.behind));
    }

pub loop-row-preserved : goal.loop-row-preserved
loop-row-preserved c =
    let mul = c.args.factors.now.mul.now in
    let x = c.args.cell.1 in
    let t = stores c.args.stored.now in
    let listed = c.list_passing-rest in
    let n = listed.result.1 in
    let cs = take n c.deref.result.now in
    let ds = taking t listed.result.0.cells.now in
    let next = listed.ensures.listed c.args.stored.now c.args.factors.now.b.now.columns c.loop-row.invariant.beside in
    let put = c.deref.ensures.value ∙ with_items_is c.loop-row.progress.passing listed.new.passing
    (listed.ensures.capacity ∙ c.deref_mut.ensures.len) in
    let parts : taking t c.loop-row.row.cells.now ≡ cs ++ ds = sym (ap (λ us. take n us ++ ds) put ∙ next.1) in
    let p = ap length parts in
    let a = length-append cs ds in
    let i = c.loop-row.invariant in
    let f = i.few in
    let l = c.push_products.ensures.charged.little in
    let many = ap length (with_items_is c.loop-row.progress.passing listed.new.passing (listed.ensures.capacity ∙ c.deref_mut.ensures.len)) in
    let same = listed.ensures.capacity ∙ ap length c.deref_mut.ensures.value in
    let capacity = i.capacity in
    record {
      pushing = pushing_part mul x c.args.making.now.rows (multiplied mul x (taking t
          (row_of c.args.factors.now.b.now c.args.cell.0)))
          c.loop-row.making.rows (taking t c.loop-row.row.cells.now) cs ds c.push_products.new.making.rows i.pushing parts c.in_ok-push_products.ensures.pushed;
      spends = spends-step _ c.args.making.now.steps _ c.loop-row.making.steps (calls_on mul (pairs_with x cs))
          (calls_on mul (pairs_with x ds)) _ i.spends (ap (λ us. calls_on mul (pairs_with x us)) parts ∙ calls_by_parts mul x cs ds)
          c.push_products.ensures.charged.steps;
      few = omega (arith, p, a, f, l);
      beside = next.0;
      sums = c.push_products.ensures.sums ∙ i.sums;
      allowed = i.allowed;
      capacity = omega (arith, many, same, capacity);
      columns = i.columns;
    }

pub returns-clause-little : goal.returns-clause-little
returns-clause-little c =
    let f = c.loop-row.invariant.few in
    let w = taking_few (stores c.args.stored.now) (row_of c.args.factors.now.b.now c.args.cell.0) in
    let r = row_few c.args.factors.now.b.now c.args.cell.0 c.requires.push.factors.b_grid in
    omega (arith, f, w, r)
