use Rattle.std.proofs.Common.{◌≡◌, ◌-◌, get_or, ap, refl, ◌∙◌, arith}
use Rattle.csr_store.specs.Grid.{Grid, row_of}
use Rattle.csr_store.specs.Along.{along}
use Rattle.csr_store.specs.inner.Cells.{joined_cells}
use Rattle.csr_store.proofs.Copies.{cells_are, cells_along}
use Rattle.csr_store.proofs.InRuns.{stretch_part}
use Rattle.csr_store.proofs.matrix.Matrix.cells_of.Goals as goal

pub part-requires-clause-part : goal.part-requires-clause-part
part-requires-clause-part c =
    let r = ap (λ (g : Grid). g.rows) c.self.view_is in let o = c.requires.range in let l = c.requires.within in
    rw c.list-starts.ensures
    (stretch_part c.self.inside.rows c.self.inside.columns c.self.inside.starts c.self.inside.cells c.args.range.start c.args.range.end c.self.invariant.1 c.self.invariant.2
    (omega (arith, o, c.if-range.false)) (omega (arith, r, l)) c.requires.one_run)

pub returns : goal.returns
returns c =
    let r = ap (λ (g : Grid). g.rows) c.self.view_is in let o = c.requires.range in let l = c.requires.within in
    let from : get_or c.list-starts.result.now c.args.range.start 0 ≡ get_or c.self.inside.starts c.args.range.start 0 = ap (λ ss. get_or ss c.args.range.start 0) c.list-starts.ensures in
    let to : get_or c.list-starts.result.now c.args.range.end 0 ≡ get_or c.self.inside.starts c.args.range.end 0 = ap (λ ss. get_or ss c.args.range.end 0) c.list-starts.ensures in
    c.part.ensures ∙ (cells_are c.self.inside.rows c.self.inside.columns c.self.inside.starts (joined_cells c.self.inside.cells) c.self.invariant.1 _ _ c.args.range.start c.args.range.end _ o from to refl
    ∙ (cells_along c.self.inside.rows c.self.inside.columns c.self.inside.starts (joined_cells c.self.inside.cells) c.self.invariant.1 c.args.range.start (c.args.range.end - c.args.range.start) (omega (arith, r, o, l))
    ∙ ap (λ (g : Grid). along (row_of g) c.args.range.start (c.args.range.end - c.args.range.start)) c.self.view_is))
