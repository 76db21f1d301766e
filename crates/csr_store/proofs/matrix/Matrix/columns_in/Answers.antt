use Rattle.std.proofs.Common.{◌≡◌, ◌+◌, ◌-◌, ℕ, List, length, take, drop, get_or, sym, ap, ◌∙◌, arith}
use Rattle.std.proofs.lemmas.List.{length-map}
use Rattle.csr_store.specs.Columns.{columns_of}
use Rattle.csr_store.specs.Grid.{Grid, Cell, row_of}
use Rattle.csr_store.specs.inner.Cells.{joined_cells}
use Rattle.csr_store.proofs.Narrowing.{columns_between, narrow_of}
use Rattle.csr_store.proofs.Slicing.{start_within, row_between}
use Rattle.csr_store.proofs.matrix.Matrix.columns_in.Goals as goal

pub between-requires-clause-within : goal.between-requires-clause-within
between-requires-clause-within c =
    let s = c.self.inside in
    let r = ap (λ (g : Grid). g.rows) c.self.view_is in let l = c.requires in
    let n = narrow_of s.narrow c.in-Some.narrow (joined_cells s.cells) c.in-Some.is c.self.invariant.4 in
    let w = (start_within s.rows s.columns s.starts (joined_cells s.cells) c.self.invariant.1 c.args.i (omega (arith, r, l))).1 in
    let to = ap (λ us. get_or us (c.args.i + 1) 0) c.list-starts.ensures in
    let listed = ap length n.columns in
    let many = length-map (joined_cells s.cells) (λ (d : Cell). d.0) in
    omega (arith, w, to, listed, many)

between : (starts known : List ℕ) (i : ℕ) (xs : List ℕ) → starts ≡ known
    → take (get_or starts (i + 1) 0 - get_or starts i 0) (drop (get_or starts i 0) xs)
    ≡ take (get_or known (i + 1) 0 - get_or known i 0) (drop (get_or known i 0) xs)
between starts known i xs e = ap (λ ss. take (get_or ss (i + 1) 0 - get_or ss i 0) (drop (get_or ss i 0) xs)) e

pub returns-in-Some : goal.returns-in-Some
returns-in-Some c =
    let s = c.self.inside in
    let i = c.args.i in
    let cells = joined_cells s.cells in
    let columns = c.in-Some.narrow.columns.items in
    let r = ap (λ (g : Grid). g.rows) c.self.view_is in let l = c.requires in
    let n = narrow_of s.narrow c.in-Some.narrow cells c.in-Some.is c.self.invariant.4 in
    c.between.ensures ∙ (between c.list-starts.result.now s.starts i columns c.list-starts.ensures
    ∙ (columns_between cells columns (get_or s.starts i 0) (get_or s.starts (i + 1) 0 - get_or s.starts i 0) n.columns
    ∙ (ap columns_of (sym (row_between s.rows s.columns s.starts cells c.self.invariant.1 i (omega (arith, r, l))))
    ∙ ap (λ (g : Grid). columns_of (row_of g i)) c.self.view_is)))
