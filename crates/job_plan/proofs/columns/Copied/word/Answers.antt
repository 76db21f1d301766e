use Rattle.std.proofs.Common.{length, get_or, None, ap, sym, ◌∙◌, arith}
use Rattle.std.specs.Arc.{arc_value}
use Rattle.std.specs.FinMap as fin
use Rattle.csr_store.specs.Grid.{Grid}
use Rattle.csr_store.proofs.ByBits.{column_at, length_column}
use Rattle.job_plan.proofs.columns.Copied.word.Goals as goal

pub word-requires : goal.word-requires
word-requires c =
    let copied = ap length c.self.invariant in
    let n = length_column (arc_value c.self.inside.matrix) in
    let v = ap (λ (g : Grid). g.rows) c.self.view_is in
    let r = c.requires in
    omega (arith, copied, n, v, r)

pub returns : goal.returns
returns c =
    let v = ap (λ (g : Grid). g.rows) c.self.view_is in
    let r = c.requires in
    c.word_of.ensures
    ∙ (sym c.word.ensures
    ∙ (ap (λ us. get_or us c.args.k None) c.self.invariant
    ∙ (column_at (arc_value c.self.inside.matrix) c.args.k (omega (arith, v, r))
    ∙ ap (λ (g : Grid). fin.get g.cells (c.args.k, 0)) c.self.view_is)))
