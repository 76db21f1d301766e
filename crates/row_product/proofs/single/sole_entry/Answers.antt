use Rattle.std.proofs.Common.{◌≡◌, List, [], ◌∷◌, length, get_or, refl, sym, ◌∙◌, subst, arith}
use Rattle.csr_store.specs.Grid.{Cell, row_of}
use Rattle.csr_store.proofs.Along.{Ascends, row_of-ascends}
use Rattle.row_product.proofs.single.sole_entry.Goals as goal

one_cell : (row : List Cell) → length row ≡ 1 → row ≡ get_or row 0 (0, 0) ∷ []
one_cell [] h = absurd (omega (arith, h))
one_cell (c ∷ []) h = refl
one_cell (c ∷ d ∷ row) h = absurd (omega (arith, h))

pub returns-then-row-eq1 : goal.returns-then-row-eq1
returns-then-row-eq1 c =
    let f = c.args.factors.now in
    let a = f.a.now in
    let e = c.row-row.ensures in
    let t = c.if-row-eq1.true in
    let one = one_cell c.row-row.result.now (omega (arith, t)) in
    let row : row_of a c.args.i ≡ get_or c.row-row.result.now 0 (0, 0) ∷ [] = sym e ∙ one in
    let w = c.requires.factors.shapes in
    let u = (subst (Ascends 0 a.columns) row (row_of-ascends a c.args.i c.requires.factors.a_grid)).1 in
    record {
      row = row;
      named = omega (arith, u, w);
    }
