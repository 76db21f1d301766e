use Rattle.std.proofs.Common.{◌≡◌, ◌+◌, length, ap, sym, arith}
use Rattle.csr_store.specs.Mask.{mask_of}
use Rattle.bpf_run.specs.Calls.{steps_of}
use Rattle.entry_ops.specs.inner.Folding.{Folding}
use Rattle.entry_ops.proofs.OpenRows.{no_lanes}
use Rattle.entry_ops.proofs.Folding.{all_calls, folding-start, folding-go, folding-room, folding-results, folding-steps}
use Rattle.entry_ops.proofs.folds.Folds.fold.Goals as goal

pub loop-block-init : goal.loop-block-init
loop-block-init c =
    let f = c.args.operator.now in
    let a = c.args.a.now in
    let mask = mask_of c.args.mask in
    let s : c.self.inside.steps ≡ c.args.self.now.steps = ap (λ (e : Folding). e.steps) c.self.view_is in
    record {
      begun = c.begin.ensures.kind;
      none = c.begin.ensures.none;
      few = c.fill.ensures.begun.few;
      all = c.fill.ensures.begun.all;
      folding = c.fill.ensures.folding f (c.args.self.now.steps + steps_of
          (all_calls f a mask c.args.block.first c.args.block.many))
          (folding-start f a mask c.args.block.first c.args.block.many _ _ c.clear.ensures c.clear-2.ensures.items
          (ap (λ n. n + steps_of (all_calls f a mask c.args.block.first c.args.block.many)) (sym s)));
    }

pub go-requires-clause-can : goal.go-requires-clause-can
go-requires-clause-can c =
    let r = folding-room _ _ _ _ _ _ _ c.loop-block.invariant.folding in
    let capacity = c.requires.capacity in
    let l : length c.self-in-loop-block.inside.lanes ≡ length c.loop-block.self.lanes =
    ap (λ (e : Folding). length e.lanes) c.self-in-loop-block.view_is in
    let o = c.len.ensures.len in
    let t = c.loop-block-test.true in
    (record { kind = c.requires.kind; accepted = c.requires.accepted; capacity = omega (arith, r, capacity) }, omega (arith, l, o, t))

pub loop-block-smaller : goal.loop-block-smaller
loop-block-smaller c =
    let r = folding-room _ _ _ _ _ _ _ c.loop-block.invariant.folding in
    let t = c.requires.capacity in
    let m = c.go.ensures.goes.1 in
    let s = c.fill-in-loop-block.ensures.begun.steps in
    omega (arith, r, t, m, s)

pub loop-block-preserved : goal.loop-block-preserved
loop-block-preserved c =
    let f = c.args.operator.now in
    let a = c.args.a.now in
    let mask = mask_of c.args.mask in
    record {
      begun = c.go.ensures.waits.begun;
      none = c.go.ensures.waits.none;
      few = c.fill-in-loop-block.ensures.begun.few;
      all = c.fill-in-loop-block.ensures.begun.all;
      folding = c.fill-in-loop-block.ensures.folding f
          (c.args.self.now.steps + steps_of (all_calls f a mask c.args.block.first c.args.block.many))
          (folding-go f a mask c.args.block.first c.args.block.many _ c.loop-block.self c.go.new.self
          c.loop-block.invariant.folding c.go.ensures.goes.0);
    }

pub returns : goal.returns
returns c =
    let f = c.args.operator.now in
    let a = c.args.a.now in
    let mask = mask_of c.args.mask in
    let l : length c.self-in-loop-block.inside.lanes ≡ length c.loop-block.self.lanes =
    ap (λ (e : Folding). length e.lanes) c.self-in-loop-block.view_is in
    let o = c.len.ensures.len in
    let t = c.loop-block-test.false in
    let z : length c.loop-block.self.lanes ≡ 0 = omega (arith, l, o, t) in
    let none = no_lanes c.loop-block.self.lanes z in
    let all = c.loop-block.invariant.all (omega (arith, z)) in
    record {
      results = folding-results f a mask c.args.block.first c.args.block.many _ c.loop-block.self c.loop-block.invariant.folding
          none all;
      steps = folding-steps f a mask c.args.block.first c.args.block.many _ c.loop-block.self c.loop-block.invariant.folding none
          all;
    }
