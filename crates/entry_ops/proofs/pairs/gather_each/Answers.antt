use Rattle.std.proofs.Common.{◌∙◌, ◌+◌, ◌++◌, ◌∷◌, [], get_or, ap, arith, refl}
use Rattle.bpf_insn.specs.declared.operands.Operands.TheVariants.{Binary}
use Rattle.bpf_run.specs.Calls.{Gathered}
use Rattle.entry_ops.proofs.Paired.{gathering-start, gathering-step, gathering-end}
use Rattle.entry_ops.proofs.pairs.gather_each.Goals as goal

pub loop-cell-init : goal.loop-cell-init
loop-cell-init c = record { next = refl; gathering = gathering-start c.args.left.now c.args.right.now c.args.calls.now c.requires.same }

pub gather_pair-requires-clause-capacity : goal.gather_pair-requires-clause-capacity
gather_pair-requires-clause-capacity c =
    let m = c.loop-cell.invariant.gathering.many in
    let r = c.requires.capacity in
    let t = c.loop-cell-test.true in
    omega (arith, m, r, t)

pub gather_pair-requires-clause-kind : goal.gather_pair-requires-clause-kind
gather_pair-requires-clause-kind c = ap (λ (g : Gathered). g.kind) c.loop-cell.invariant.gathering.same ∙ c.requires.kind

pub loop-cell-preserved : goal.loop-cell-preserved
loop-cell-preserved c = record {
  next = ap (λ k. k + 1) c.loop-cell.invariant.next;
  gathering = gathering-step c.args.left.now c.args.right.now c.args.calls.now c.requires.same c.loop-cell.cell-index c.loop-cell.calls _ (0, 0)
      c.loop-cell.invariant.gathering c.loop-cell-test.true
      (c.gather_pair.ensures ∙ ap (λ k. record c.loop-cell.calls {
        operands = c.loop-cell.calls.operands
            ++ Binary (get_or c.args.left.now c.loop-cell.cell-index (0, 0)).1 (get_or c.args.right.now k (0, 0)).1 ∷ [];
      }) c.loop-cell.invariant.next);
}

pub returns : goal.returns
returns c = gathering-end c.args.left.now c.args.right.now c.args.calls.now c.requires.same c.loop-cell.cell-index c.loop-cell.calls
    c.loop-cell.invariant.gathering c.loop-cell-test.false
