use Rattle.std.proofs.Common.{arith, rules}
use Rattle.csr_store.proofs.Along.{ascends-weaken}
use Rattle.entry_ops.proofs.Nexts.{none_left}
use Rattle.entry_ops.proofs.Masks.{masking-start, masking-fits, masking-step, masking-end}
use Rattle.entry_ops.proofs.Standing.{on_err, completes-room, completes-stop}
use Rattle.entry_ops.proofs.masked.fill_masked.Goals as goal

pub loop-shown-init : goal.loop-shown-init
loop-shown-init c = rw (c.new-lefts.ensures, c.new-rights.ensures) (
  c.requires.ready.holds,
  masking-start _ _ _ _ _ _ _ _ _ _ c.requires.sides.left (c.second_for.ensures.ascends c.args.sides.columns c.requires.sides.right)
      c.requires.sides.mask
      (c.second_for.ensures.cells c.args.operator.now c.args.sides.row c.args.sides.columns c.args.sides.left.now c.args.mask.now)
      (c.second_for.ensures.calls c.args.operator.now c.args.sides.row c.args.sides.columns c.args.sides.left.now c.args.mask.now)
      c.requires.ready.open_row,
)

pub emit-requires-clause-can : goal.emit-requires-clause-can
emit-requires-clause-can c = record {
  holds = c.loop-shown.invariant.0;
  fits = masking-fits _ _ _ _ _ _ _ _ _ _ _ c.loop-shown.invariant.1 _ _ c.in-Some.ensures.cases.0;
  capacity = completes-room _ _ _ _ _ _ c.loop-shown.invariant.1.completes c.requires.ready.capacity;
}

pub returns-in_err-emit : goal.returns-in_err-emit
returns-in_err-emit c = record {
  does = search rules;
  spent = on_err c.from_residual.result (completes-stop _ _ _ _ _ _ c.loop-shown.invariant.1.completes _
      c.in_err-emit.ensures.spent);
}

pub loop-shown-preserved : goal.loop-shown-preserved
loop-shown-preserved c =
    let d = c.in_ok-emit.ensures.does in
    let l = c.advance_to.ensures c.args.sides.columns c.loop-shown.invariant.1.left_row in
    let r = c.advance_to-in-Some.ensures c.args.sides.columns c.loop-shown.invariant.1.right_row in (
      d.holds,
      masking-step _ _ _ _ _ _ _ _ _ _ _ c.loop-shown.invariant.1 _ _ c.in-Some.ensures.cases.0 _ _ l
          (ascends-weaken 0 c.in-Some.shown.now.0 c.args.sides.columns _ (omega arith) r.0, r.1) _ _
          (c.word_at.ensures c.args.sides.columns l.0) (c.word_at-in-Some.ensures c.args.sides.columns r.0) _ d.adds,
    )

pub returns : goal.returns
returns c = record {
  does = record {
    holds = c.loop-shown.invariant.0;
    adds = masking-end _ _ _ _ _ _ _ _ _ _ _ c.loop-shown.invariant.1 (none_left _ c.in_default.ensures.cases);
  };
  spent = tt;
}
