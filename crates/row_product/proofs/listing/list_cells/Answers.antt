use Rattle.std.proofs.Common.{◌≡◌, ◌+◌, ℕ, List, ◌∷◌, ◌++◌, [], drop, get_or, length, vec_capacity, sym, ap, ◌∙◌, arith}
use Rattle.std.proofs.lemmas.List.{drop_more, length_push}
use Rattle.std.specs.Global.{Vec}
use Rattle.bpf_insn.specs.declared.operands.Operands.TheVariants.{Binary}
use Rattle.bpf_run.specs.Calls.{steps_of, calls_on, pairs_with}
use Rattle.bpf_run.proofs.Charging.{cost-few}
use Rattle.csr_store.specs.Grid.{Cell}
use Rattle.csr_store.specs.Mask.{mask_of, passes}
use Rattle.row_product.specs.inner.Adding.{taking}
use Rattle.row_product.specs.inner.Single.{multiplied}
use Rattle.row_product.proofs.Listed.{take_cell, take_steps, pass_cell, pass_steps}
use Rattle.row_product.proofs.listing.list_cells.Goals as goal
use Rattle.row_product.proofs.listing.list_cells.Goals.{then-lets_pass, else-lets_pass}

pub overflow_add-steps : goal.overflow_add-steps
overflow_add-steps g c =
    let f = c.loop-cell.invariant.few in
    let cell = get_or c.args.cells.now c.loop-cell.cell-index (0, 0) in
    let s = c.make-term.ensures.steps in
    let k = cost-few c.args.mul.now (Binary c.args.x cell.1) c.requires.serves.1 (sym c.requires.kind) in
    let r = c.requires.few in
    let t = c.loop-cell-test.true in
    omega (arith, f, s, k, r, t)

pub loop-cell-preserved : goal.loop-cell-preserved
loop-cell-preserved g c =
    let mul = c.args.mul.now in
    let x = c.args.x in
    let t = λ (j : ℕ). passes (mask_of c.args.mask) (c.args.i, j) in
    let cells = c.args.cells.now in
    let k = c.loop-cell.cell-index in
    let cell = get_or cells k (0, 0) in
    let more = drop (k + 1) cells in
    let now = c.loop-cell.listed.items in
    let inv = c.loop-cell.invariant in
    let few = inv.few in
    let long = inv.long in
    let counted = inv.counted in
    let d = drop_more cells k (0, 0) c.loop-cell-test.true in
    let made = ap (λ (us : List Cell). now ++ multiplied mul x (taking t us)) (sym d) ∙ inv.made in
    let before = ap (λ (us : List Cell). steps_of (calls_on mul (pairs_with x (taking t us)))) d in
    let total = steps_of (calls_on mul (pairs_with x (taking t cells))) in
    let all : c.loop-cell.steps + steps_of (calls_on mul (pairs_with x (taking t (cell ∷ more)))) ≡ total =
    omega (arith, before, counted) in
    elim c.if-lets_pass.branch [
      | then-lets_pass v ↦
          let e = sym c.lets_pass.ensures ∙ v.if-lets_pass.true in
          let cost = v.make-term.ensures.steps in
          let s = v.steps-is in
          let n : c.if-lets_pass.listed.items ≡ now ++ (cell.0, v.make-term.result.value) ∷ [] =
          ap (λ (l : Vec Cell). l.items) v.listed-is ∙ v.push_reserved.ensures.items in
          let l = ap length n in
          let p = length_push now (cell.0, v.make-term.result.value) in
          let q = take_steps mul x t c.loop-cell.steps total cell more e all in
          let u = cost-few mul (Binary x cell.1) c.requires.serves.1 (sym c.requires.kind) in
          record {
            made = ap (λ (us : List Cell). us ++ multiplied mul x (taking t more)) n
                ∙ (ap (λ w. (now ++ (cell.0, w) ∷ []) ++ multiplied mul x (taking t more)) v.make-term.ensures.value
                ∙ take_cell mul x t now _ cell more e made);
            counted = omega (arith, q, s, cost);
            few = omega (arith, few, s, cost, u);
            long = omega (arith, long, l, p);
            capacity = ap (λ (l : Vec Cell). vec_capacity l) v.listed-is ∙ (v.push_reserved.ensures.capacity ∙ inv.capacity);
          }
      | else-lets_pass v ↦
          let e = sym c.lets_pass.ensures ∙ v.if-lets_pass.false in
          let s = v.steps-is in
          let n : c.if-lets_pass.listed.items ≡ now = ap (λ (l : Vec Cell). l.items) v.listed-is in
          let l = ap length n in
          let q = pass_steps mul x t c.loop-cell.steps total cell more e all in
          record {
            made = ap (λ (us : List Cell). us ++ multiplied mul x (taking t more)) n ∙ pass_cell mul x t now _ cell more e made;
            counted = omega (arith, q, s);
            few = omega (arith, few, s);
            long = omega (arith, long, l);
            capacity = ap (λ (l : Vec Cell). vec_capacity l) v.listed-is ∙ inv.capacity;
          }
    ]
