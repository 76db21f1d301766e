use Rattle.std.proofs.Common.{sym, ◌∙◌, arith, eq-eqb}
use Rattle.std.proofs.lemmas.Bool.{eqb-true}
use Rattle.csr_store.proofs.Starting.{start_at, start_inside, blank_between, blank_same}
use Rattle.csr_store.proofs.matrix.Matrix.is_blank.Goals as goal

pub bounds-starts-range : goal.bounds-starts-range
bounds-starts-range c =
    let w = c.requires in
    let b = c.if-range.false in
    start_inside c.args.self.now _ _ c.starts-starts.ensures (omega (arith, w, b))

pub bounds-starts-range-2 : goal.bounds-starts-range-2
bounds-starts-range-2 c = start_inside c.args.self.now _ _ c.starts-starts.ensures c.requires

pub returns : goal.returns
returns c =
    let w = c.requires in
    let b = c.if-range.false in
    let s = start_at c.args.self.now _ c.args.range.start c.starts-starts.ensures (omega (arith, w, b)) in
    let e = start_at c.args.self.now _ c.args.range.end c.starts-starts.ensures w in (
      λ t. blank_between c.args.self.now c.args.range.start c.args.range.end (sym s ∙ (eqb-true _ _ t ∙ e)),
      λ h. eq-eqb _ _ (s ∙ (blank_same c.args.self.now c.args.range.start c.args.range.end (omega (arith, b)) h ∙ sym e)),
    )
