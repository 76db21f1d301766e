use Rattle.std.proofs.Common.{arith, ap, sym, ◌∙◌, rules}
use Rattle.bpf_run.specs.Calls.{steps_of}
use Rattle.entry_ops.specs.inner.Forms.{form_of}
use Rattle.entry_ops.proofs.Filling.{
  filling-start,
  filling-open,
  filling-room,
  filling-stop,
  filling-stop_end,
  filling-step,
  filling-end,
}
use Rattle.entry_ops.proofs.Placing.{does-end}
use Rattle.entry_ops.proofs.Standing.{on_err, charges-kept}
use Rattle.entry_ops.proofs.rows.fill.Goals as goal

pub loop-row-init : goal.loop-row-init
loop-row-init c = (c.requires.ready.holds, filling-start _ _ _ _ _ _ _ _ c.requires.ready.open_row.none, c.begin-operand_reader.ensures)

pub fill_operands-requires-clause-ready : goal.fill_operands-requires-clause-ready
fill_operands-requires-clause-ready c =
    let capacity = filling-room _ _ _ _ _ _ _ _ _ _ c.loop-row.invariant.1
    c.loop-row-test.true c.requires.ready.capacity in
    let same = ap steps_of (c.next_operands-sides.ensures.sides.calls (form_of c.args.form) c.args.operator.now) in
    let begun = filling-open _ _ _ _ _ _ _ _ _ _ c.loop-row.invariant.1
    c.requires.ready.open_row in
    record {
      holds = c.loop-row.invariant.0;
      open_row = record { columns_are = begun.columns_are ∙ sym c.next_operands-sides.ensures.sides.columns; none = begun.none };
      capacity = omega (arith, capacity, same);
    }

pub returns-in_err-fill_operands : goal.returns-in_err-fill_operands
returns-in_err-fill_operands c = record {
  does = search rules;
  spent = on_err c.from_residual.result (filling-stop _ _ _ _ _ _ _ _ _ _
      c.loop-row.invariant.1 c.loop-row-test.true _ _
      (c.next_operands-sides.ensures.sides.calls (form_of c.args.form) c.args.operator.now) c.in_err-fill_operands.ensures.spent);
}

pub returns-in_err-end_row : goal.returns-in_err-end_row
returns-in_err-end_row c = record {
  does = search rules;
  spent = on_err c.from_residual-in_err-end_row.result
      (filling-stop_end _ _ _ _ _ _ _ _ _ _ c.loop-row.invariant.1
      c.loop-row-test.true
      _ _ _ _ (c.next_operands-sides.ensures.sides.calls (form_of c.args.form) c.args.operator.now) c.in_ok-fill_operands.ensures.does.adds
      (charges-kept _ _ _ c.in_err-end_row.ensures.unchanged));
}

pub loop-row-preserved : goal.loop-row-preserved
loop-row-preserved c =
    let ended = does-end c.args.operator.now c.fill_operands.new.emitter c.fill_operands.new.calls c.in_ok-fill_operands.ensures.does.holds
    c.end_row.new.self c.in_ok-end_row.ensures.ended in (
      ended.holds,
      filling-step _ _ _ _ _ _ _ _ _ _ c.loop-row.invariant.1
          c.loop-row-test.true _ _ _ _
          (c.next_operands-sides.ensures.sides.calls (form_of c.args.form) c.args.operator.now) (c.next_operands-sides.ensures.sides.cells (form_of c.args.form) c.args.operator.now)
          c.in_ok-fill_operands.ensures.does.adds ended.adds,
      c.next_operands-sides.ensures.read,
    )

pub returns : goal.returns
returns c = record {
  does = record {
    holds = c.loop-row.invariant.0;
    adds = filling-end _ _ _ _ _ _ _ _ _ _ c.loop-row.invariant.1
        (let t = c.loop-row-test.false in omega (arith, t));
  };
  spent = tt;
}
