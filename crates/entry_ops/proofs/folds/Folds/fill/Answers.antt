use Rattle.std.proofs.Common.{◌≡◌, ◌<◌, ◌+◌, List, length, ap, ◌∙◌, subst, arith}
use Rattle.csr_store.specs.Grid.{Cell}
use Rattle.csr_store.specs.Mask.{mask_of}
use Rattle.entry_ops.specs.inner.Folding.{Folding, Begins}
use Rattle.entry_ops.proofs.Folding.{folding-begin, cells_shown}
use Rattle.entry_ops.proofs.folds.Folds.fill.Goals as goal

pub loop-self-smaller : goal.loop-self-smaller
loop-self-smaller c =
    let n : length c.self.inside.results.items ≡ length c.loop-self.self.results = ap (λ (e : Folding). length e.results)
    c.self.view_is in
    let b = c.begin_row.ensures.rows in
    let l = c.len-in-loop-self.ensures in
    let o = c.self.inside.results.ok.0 in
    let t = c.if-len-block.true in
    omega (arith, n, b, l, o, t)

pub loop-self-preserved : goal.loop-self-preserved
loop-self-preserved c =
    let n : length c.self.inside.results.items ≡ length c.loop-self.self.results = ap (λ (e : Folding). length e.results)
    c.self.view_is in
    let b = c.begin_row.ensures.rows in
    let o = c.self.inside.results.ok.0 in
    let l = c.len-in-loop-self.ensures in
    let m = c.len-in-loop-self-2.ensures in
    let t = c.if-len-block.true in
    let within : length c.loop-self.self.results < c.args.block.many = omega (arith, n, o, l, t) in
    let here : c.len-in-loop-self-2.result ≡ length c.loop-self.self.results = m ∙ o ∙ n in
    record {
      few = omega (arith, b, within);
      steps = c.begin_row.ensures.steps ∙ c.loop-self.invariant.steps;
      folding = λ f total h. folding-begin f c.args.a.now (mask_of c.args.mask) c.args.block.first c.args.block.many total
          c.loop-self.self c.begin_row.new.self within
          (c.loop-self.invariant.folding f total h)
          (subst (λ (cs : List Cell). Begins f cs c.loop-self.self c.begin_row.new.self)
          (c.shown_cells.ensures ∙ ap (λ k. cells_shown f c.args.a.now (mask_of c.args.mask) (c.args.block.first + k)) here)
          (c.begin_row.ensures.folds f));
    }
