-- row
use Rattle.std.proofs.Common.{◌≡◌, ◌+◌, ◌-◌, ℕ, List, take, drop, get_or, sym, ap, ◌∙◌, arith}
use Rattle.csr_store.specs.Grid.{Grid, Cell, row_of}
use Rattle.csr_store.specs.inner.Cells.{joined_cells}
use Rattle.csr_store.proofs.Slicing.{row_between}
use Rattle.csr_store.proofs.matrix.Matrix.row.Goals as goal

pub part-requires-clause-part : goal.part-requires-clause-part
part-requires-clause-part c =
    let r = ap (λ (g : Grid). g.rows) c.self.view_is in let l = c.requires in
    rw c.list-starts.ensures (c.self.invariant.2 c.args.i (omega (arith, r, l)))

between : (starts known : List ℕ) (i : ℕ) (xs : List Cell) → starts ≡ known
    → take (get_or starts (i + 1) 0 - get_or starts i 0) (drop (get_or starts i 0) xs)
    ≡ take (get_or known (i + 1) 0 - get_or known i 0) (drop (get_or known i 0) xs)
between starts known i xs e = ap (λ ss. take (get_or ss (i + 1) 0 - get_or ss i 0) (drop (get_or ss i 0) xs)) e

pub returns : goal.returns
returns c =
    let r = ap (λ (g : Grid). g.rows) c.self.view_is in let l = c.requires in
    c.part.ensures ∙ (between _ _ c.args.i (joined_cells c.self.inside.cells) c.list-starts.ensures
    ∙ (sym (row_between c.self.inside.rows c.self.inside.columns c.self.inside.starts (joined_cells c.self.inside.cells) c.self.invariant.1 c.args.i (omega (arith, r, l)))
    ∙ ap (λ (g : Grid). row_of g c.args.i) c.self.view_is))
