use Rattle.std.proofs.Common.{◌≡◌, ◌+◌, List, ◌++◌, drop, get_or, length, ap, ◌∙◌, arith}
use Rattle.std.proofs.lemmas.List.{drop_more}
use Rattle.bpf_run.specs.Calls.{steps_of, calls_on, pairs_with}
use Rattle.csr_store.specs.Grid.{Cell, row_of}
use Rattle.job_forms.specs.Product.{mults_of}
use Rattle.row_product.specs.inner.Adding.{taking}
use Rattle.row_product.specs.inner.SortedAccumulator.{passing}
use Rattle.row_product.specs.inner.Single.{multiplied}
use Rattle.row_product.proofs.Listed.{list_row, list_steps, list_long}
use Rattle.row_product.proofs.listing.list_rows.Goals as goal

pub loop-nth-preserved : goal.loop-nth-preserved
loop-nth-preserved g c =
    let mul = c.args.mul.now in
    let b = c.args.naming.now.b.now in
    let t = passing c.args.naming.now in
    let row = c.args.naming.now.row.now in
    let k = c.loop-nth.nth in
    let cell = get_or row k (0, 0) in
    let more = drop (k + 1) row in
    let now = c.loop-nth.listed.items in
    let inv = c.loop-nth.invariant in
    let d = drop_more row k (0, 0) c.loop-nth-test.true in
    let finished = c.list_cells-steps.ensures in
    let there : c.row.result.now ≡ row_of b cell.0 = c.row.ensures in
    let n : c.list_cells-steps.new.listed.items ≡ now ++ multiplied mul cell.1 (taking t (row_of b cell.0)) =
    finished.listed ∙ ap (λ (us : List Cell). now ++ multiplied mul cell.1 (taking t us)) there in
    let s : c.list_cells-steps.result ≡ steps_of (calls_on mul (pairs_with cell.1 (taking t (row_of b cell.0)))) =
    finished.steps ∙ ap (λ (us : List Cell). steps_of (calls_on mul (pairs_with cell.1 (taking t us)))) there in
    let little = inv.little in
    let few = finished.few in
    let m = ap (mults_of b) d in
    let l = ap length there in
    record {
      made = list_row mul b t now _ cell more (drop k row) _ n d inv.made;
      counted = list_steps mul b t c.loop-nth.steps c.list_cells-steps.result _ cell more (drop k row) s d inv.counted;
      little = omega (arith, little, few, m, l);
      long = list_long mul b t now _ cell more (drop k row) _ n d inv.long;
      capacity = finished.capacity ∙ inv.capacity;
    }

pub list_cells-steps-requires-clause-few : goal.list_cells-steps-requires-clause-few
list_cells-steps-requires-clause-few g c =
    let row = c.args.naming.now.row.now in
    let k = c.loop-nth.nth in
    let m = ap (mults_of c.args.naming.now.b.now) (drop_more row k (0, 0) c.loop-nth-test.true) in
    let l = ap length c.row.ensures in
    let little = c.loop-nth.invariant.little in
    let few = c.requires.may.few in
    omega (arith, m, l, little, few)
