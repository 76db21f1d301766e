use Rattle.std.proofs.Common.{◌≤◌, ◌∙◌, ◌++◌, ap, arith, sym}
use Rattle.std.proofs.lemmas.Bool.{ltb-false}
use Rattle.bpf_run.specs.Calls.{Gathered}
use Rattle.entry_ops.specs.inner.Paired.{pairs_in}
use Rattle.entry_ops.proofs.IndexCalls.{gathered-more}
use Rattle.entry_ops.proofs.Nexts.{none_left}
use Rattle.entry_ops.proofs.Paired.{pairs_parts}
use Rattle.entry_ops.proofs.pairs.Pairs.gather.Goals as goal

pub returns-clause-gathers : goal.returns-clause-gathers
returns-clause-gathers c =
    let s = c.self.inside in
    let front = c.split_at.ensures in
    let behind = c.split_at-2.ensures in
    record {
      kind = ap (λ (g : Gathered). g.kind) c.gather_each.ensures;
      parts = gathered-more _ _ _ (pairs_in c.split_at.result.0.now c.split_at-2.result.0.now) (pairs_in s.left.now s.right.now) _
          (sym c.self.view_is ∙ ap (λ os. os ++ pairs_in s.left.now s.right.now) (sym c.requires.none))
          (ap (λ (g : Gathered). g.operands) c.gather_each.ensures)
          (pairs_parts c.min-many.result s.left.now s.right.now c.split_at.result.0.now c.split_at-2.result.0.now
          c.split_at.result.1.now c.split_at-2.result.1.now c.self.invariant front.front front.back behind.front behind.back);
      over = λ e.
          let none : c.min-many.result ≤ 0 = ltb-false 0 c.min-many.result e in
          let m = c.min-many.ensures in
          let n = front.back_len in
          ap (λ cs. pairs_in cs c.split_at-2.result.1.now) (none_left c.split_at.result.1.now (omega (arith, none, m, n)));
    }
