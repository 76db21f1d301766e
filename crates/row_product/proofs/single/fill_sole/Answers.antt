use Rattle.std.proofs.Common.{◌≡◌, Option, length, is_some, sym, ap, ◌∙◌, subst, arith, rules}
use denote.Ref.{Bor}
use Rattle.csr_store.specs.Grid.{Grid, row_of}
use Rattle.csr_store.specs.Mask.{HasShape, mask_of, passes}
use Rattle.csr_store.proofs.Along.{Ascends, row_of-ascends}
use Rattle.csr_store.proofs.ByRow.{lookup-row_of}
use Rattle.bpf_run.specs.Calls.{calls_on, pairs_with}
use Rattle.row_product.specs.inner.Adding.{taking}
use Rattle.row_product.specs.inner.RowUnderMask.{stores}
use Rattle.row_product.specs.inner.Masked.{row_of_product, calls_of_row}
use Rattle.row_product.specs.inner.Single.{multiplied}
use Rattle.row_product.proofs.Ending.{adds_same}
use Rattle.row_product.proofs.Multiplying.{row_of_one, calls_of_one}
use Rattle.row_product.proofs.Parts.{taking_all}
use Rattle.row_product.proofs.Passing.{taking_same}
use Rattle.row_product.proofs.single.fill_sole.Goals as goal

pub push_row_under-requires : goal.push_row_under-requires
push_row_under-requires c =
    let f = c.args.factors.now in
    let mask = c.in-Some.mask.now in
    let shape = subst (λ (o : Option (Bor Grid)). HasShape f.a.now.rows f.b.now.columns (mask_of o)) c.in-Some.is
    c.requires.next.next.factors.mask in
    record {
      push = search rules;
      order = subst (Ascends 0 f.b.now.columns) (sym c.row.ensures)
          (subst (λ n. Ascends 0 n (row_of mask c.args.i)) shape.1 (row_of-ascends mask c.args.i c.recall.ensures));
      capacity = search rules;
    }

pub returns-in-None-clause-row : goal.returns-in-None-clause-row
returns-in-None-clause-row c =
    let f = c.args.factors.now in
    let cell = c.args.cell in
    let row = row_of f.b.now cell.0 in
    let g = c.requires.next.next.factors.b_grid in
    let s = c.requires.next.sole in
    let one = ap length s.row in
    let l = c.push_row.ensures.little in
    let all : taking (λ j. passes (mask_of f.mask) (c.args.i, j)) row ≡ row = taking_all _ row
    (λ j. ap (λ (o : Option (Bor Grid)). passes (mask_of o) (c.args.i, j)) c.in-None.is) in
    record {
      adds = adds_same _ (row_of_product f c.args.i) _ (calls_of_row f c.args.i) c.args.making.now _ c.push_row.result
          (ap (multiplied f.mul.now cell.1) (sym all)
          ∙ row_of_one f.add.now f.mul.now f.a.now f.b.now (mask_of f.mask) c.args.i cell g s.row)
          (ap (λ us. calls_on f.mul.now (pairs_with cell.1 us)) (sym all)
          ∙ calls_of_one f.add.now f.mul.now f.a.now f.b.now (mask_of f.mask) c.args.i cell g s.row) c.push_row.ensures.row;
      little = omega (arith, one, l);
    }

pub returns-in-Some-clause-row : goal.returns-in-Some-clause-row
returns-in-Some-clause-row c =
    let f = c.args.factors.now in
    let cell = c.args.cell in
    let row = row_of f.b.now cell.0 in
    let g = c.requires.next.next.factors.b_grid in
    let s = c.requires.next.sole in
    let one = ap length s.row in
    let l = c.push_row_under.ensures.little in
    let same : taking (stores c.row.result.now) row ≡ taking (λ j. passes (mask_of f.mask) (c.args.i, j)) row = taking_same _ _ row
    (λ j. ap (λ us. stores us j) c.row.ensures ∙ (ap is_some (lookup-row_of c.in-Some.mask.now c.args.i j)
    ∙ ap (λ (o : Option (Bor Grid)). passes (mask_of o) (c.args.i, j)) (sym c.in-Some.is))) in
    record {
      adds = adds_same _ (row_of_product f c.args.i) _ (calls_of_row f c.args.i) c.args.making.now _ c.push_row_under.result
          (ap (multiplied f.mul.now cell.1) same
          ∙ row_of_one f.add.now f.mul.now f.a.now f.b.now (mask_of f.mask) c.args.i cell g s.row)
          (ap (λ us. calls_on f.mul.now (pairs_with cell.1 us)) same
          ∙ calls_of_one f.add.now f.mul.now f.a.now f.b.now (mask_of f.mask) c.args.i cell g s.row) c.push_row_under.ensures.row;
      little = omega (arith, one, l);
    }
