use Rattle.std.proofs.Common.{arith, refl, rules}
use Rattle.entry_ops.specs.inner.Forms.{form_of}
use Rattle.entry_ops.specs.inner.Walking.{left_over}
use Rattle.entry_ops.proofs.Nexts.{none_left, first_left, first_right, together}
use Rattle.entry_ops.proofs.Merging.{
  merging-start,
  merging-fits,
  merging-step,
  merging-follow-left,
  merging-follow-right,
  merging-end-left,
  merging-end-right,
}
use Rattle.entry_ops.proofs.Placing.{can-follow, does-copies}
use Rattle.entry_ops.proofs.Standing.{on_err, on_ok_then, on_err_then, charges-kept, completes-room, completes-stop}
use Rattle.entry_ops.proofs.merge.fill_merged.Goals as goal

pub loop-x-init : goal.loop-x-init
loop-x-init c = (
  c.requires.ready.holds,
  merging-start _ _ _ _ _ _ _ _ _ _ c.requires.sides.ascends.left c.requires.sides.ascends.right c.requires.sides.whole refl refl
      c.requires.ready.open_row,
)

-- ---- one of the rows has ended

pub add_rest-requires : goal.add_rest-requires
add_rest-requires c = can-follow c.args.operator.now c.loop-x.emitter c.loop-x.calls c.loop-x.invariant.0 _
    (merging-follow-left _ _ _ _ _ _ _ _ _ _ c.loop-x.invariant.1)

pub returns-in_default-split_first : goal.returns-in_default-split_first
returns-in_default-split_first c = record {
  does = on_ok_then c.add_rest.result (λ is.
      let d = does-copies c.args.operator.now c.loop-x.emitter c.loop-x.calls c.loop-x.invariant.0
      (left_over (form_of c.args.form) c.loop-x.lefts.now)
      c.add_rest.new.emitter is in
      record {
        holds = d.holds;
        adds = merging-end-left _ _ _ _ _ _ _ _ _ _ c.loop-x.invariant.1 c.requires.form.joint_is
            (none_left _ c.in_default-split_first.ensures.cases) _ d.adds;
      }) c.add_rest.ensures.copied;
  spent = on_err_then c.add_rest.result (λ same. completes-stop _ _ _ _ _ _ c.loop-x.invariant.1.completes _
      (charges-kept _ _ _ same))
      c.add_rest.ensures.unchanged;
}

pub add_rest-requires-2 : goal.add_rest-requires-2
add_rest-requires-2 c = can-follow c.args.operator.now c.loop-x.emitter c.loop-x.calls c.loop-x.invariant.0 _
    (merging-follow-right _ _ _ _ _ _ _ _ _ _ c.loop-x.invariant.1)

pub returns : goal.returns
returns c = record {
  does = on_ok_then c.add_rest-2.result (λ is.
      let d = does-copies c.args.operator.now c.loop-x.emitter c.loop-x.calls c.loop-x.invariant.0
      (left_over (form_of c.args.form) c.loop-x.rights.now)
      c.add_rest-2.new.emitter is in
      record {
        holds = d.holds;
        adds = merging-end-right _ _ _ _ _ _ _ _ _ _ c.loop-x.invariant.1 c.requires.form.joint_is
            (none_left _ c.in_default.ensures.cases) _ d.adds;
      }) c.add_rest-2.ensures.copied;
  spent = on_err_then c.add_rest-2.result (λ same. completes-stop _ _ _ _ _ _ c.loop-x.invariant.1.completes _
      (charges-kept _ _ _ same))
      c.add_rest-2.ensures.unchanged;
}

-- ---- a cell that the left row alone has

pub emit-requires-clause-can : goal.emit-requires-clause-can
emit-requires-clause-can c =
    let i = c.loop-x.invariant.1 in
    rw c.left_alone.ensures (record {
      holds = c.loop-x.invariant.0;
      fits = merging-fits _ _ _ _ _ _ _ _ _ _ i _ _ _ _ _ (first_left c.args.sides.columns i.low _ _ i.left_row i.right_row _ _ _ _
          c.in-Some.ensures.cases.0 c.in-Some-split_first.ensures.cases.0 c.if-x-y.true);
      capacity = completes-room _ _ _ _ _ _ i.completes c.requires.ready.capacity;
    })

pub returns-in_err-emit : goal.returns-in_err-emit
returns-in_err-emit c = record {
  does = search rules;
  spent = on_err c.from_residual.result (completes-stop _ _ _ _ _ _ c.loop-x.invariant.1.completes _ c.in_err-emit.ensures.spent);
}

pub loop-x-preserved-then-x-y : goal.loop-x-preserved-then-x-y
loop-x-preserved-then-x-y c =
    let d = c.in_ok-emit.ensures.does in
    let i = c.loop-x.invariant.1 in (
      d.holds,
      merging-step _ _ _ _ _ _ _ _ _ _ i _ _ _ _ _ (first_left c.args.sides.columns i.low _ _ i.left_row i.right_row _ _ _ _
          c.in-Some.ensures.cases.0 c.in-Some-split_first.ensures.cases.0 c.if-x-y.true) _ (rw c.left_alone.ensures at d.adds),
    )

-- ---- one that the right row alone has

pub emit-requires-then-y-x-clause-can : goal.emit-requires-then-y-x-clause-can
emit-requires-then-y-x-clause-can c =
    let i = c.loop-x.invariant.1 in
    rw c.right_alone.ensures (record {
      holds = c.loop-x.invariant.0;
      fits = merging-fits _ _ _ _ _ _ _ _ _ _ i _ _ _ _ _ (first_right c.args.sides.columns i.low _ _ i.left_row i.right_row _ _ _ _
          c.in-Some.ensures.cases.0 c.in-Some-split_first.ensures.cases.0 c.if-y-x.true);
      capacity = completes-room _ _ _ _ _ _ i.completes c.requires.ready.capacity;
    })

pub returns-in_err-emit-2 : goal.returns-in_err-emit-2
returns-in_err-emit-2 c = record {
  does = search rules;
  spent = on_err c.from_residual-in_err-emit-2.result
      (completes-stop _ _ _ _ _ _ c.loop-x.invariant.1.completes _ c.in_err-emit-2.ensures.spent);
}

pub loop-x-preserved-then-y-x : goal.loop-x-preserved-then-y-x
loop-x-preserved-then-y-x c =
    let d = c.in_ok-emit-2.ensures.does in
    let i = c.loop-x.invariant.1 in (
      d.holds,
      merging-step _ _ _ _ _ _ _ _ _ _ i _ _ _ _ _ (first_right c.args.sides.columns i.low _ _ i.left_row i.right_row _ _ _ _
          c.in-Some.ensures.cases.0 c.in-Some-split_first.ensures.cases.0 c.if-y-x.true) _ (rw c.right_alone.ensures at d.adds),
    )

-- ---- one of both

pub emit-requires-else-y-x-clause-can : goal.emit-requires-else-y-x-clause-can
emit-requires-else-y-x-clause-can c =
    let i = c.loop-x.invariant.1 in
    record {
      holds = c.loop-x.invariant.0;
      fits = merging-fits _ _ _ _ _ _ _ _ _ _ i _ _ _ _ _ (together c.args.sides.columns i.low _ _ i.left_row i.right_row _ _ _ _
          c.in-Some.ensures.cases.0 c.in-Some-split_first.ensures.cases.0 (omega (arith, c.if-x-y.false, c.if-y-x.false)));
      capacity = completes-room _ _ _ _ _ _ i.completes c.requires.ready.capacity;
    }

pub returns-in_err-emit-3 : goal.returns-in_err-emit-3
returns-in_err-emit-3 c = record {
  does = search rules;
  spent = on_err c.from_residual-in_err-emit-3.result
      (completes-stop _ _ _ _ _ _ c.loop-x.invariant.1.completes _ c.in_err-emit-3.ensures.spent);
}

pub loop-x-preserved : goal.loop-x-preserved
loop-x-preserved c =
    let d = c.in_ok-emit-3.ensures.does in
    let i = c.loop-x.invariant.1 in (
      d.holds,
      merging-step _ _ _ _ _ _ _ _ _ _ i _ _ _ _ _ (together c.args.sides.columns i.low _ _ i.left_row i.right_row _ _ _ _
          c.in-Some.ensures.cases.0 c.in-Some-split_first.ensures.cases.0 (omega (arith, c.if-x-y.false, c.if-y-x.false))) _ d.adds,
    )
