use Rattle.std.proofs.Common.{refl, arith, rules}
use Rattle.entry_ops.proofs.Filling.{
  filling-start,
  filling-open,
  filling-room,
  filling-stop,
  filling-stop_end,
  filling-step,
  filling-end,
}
use Rattle.entry_ops.proofs.Standing.{on_err, adds-costs}
use Rattle.entry_ops.proofs.select.keep_rows.Goals as goal

pub loop-row-init : goal.loop-row-init
loop-row-init c = (c.requires.ready.holds, filling-start _ _ _ _ _ _ _ _ c.requires.ready.open_row.none)

pub keep_row-requires-clause-ready : goal.keep_row-requires-clause-ready
keep_row-requires-clause-ready c = record {
  holds = c.loop-row.invariant.0;
  open_row = filling-open _ _ _ _ _ _ _ _ _ _ c.loop-row.invariant.1 c.requires.ready.open_row;
  capacity = filling-room _ _ _ _ _ _ _ _ _ _ c.loop-row.invariant.1 c.loop-row-test.true c.requires.ready.capacity;
}

pub returns-in_err-keep_row : goal.returns-in_err-keep_row
returns-in_err-keep_row c = record {
  does = search rules;
  spent = on_err c.from_residual.result (filling-stop _ _ _ _ _ _ _ _ _ _ c.loop-row.invariant.1
      c.loop-row-test.true _ _
      refl c.in_err-keep_row.ensures.spent);
}

pub end_row-requires-clause-capacity : goal.end_row-requires-clause-capacity
end_row-requires-clause-capacity c =
    let capacity = filling-room _ _ _ _ _ _ _ _ _ _ c.loop-row.invariant.1 c.loop-row-test.true c.requires.ready.capacity in
    let costs = adds-costs _ _ _ _ c.in_ok-keep_row.ensures.does.adds in
    omega (arith, capacity, costs)

pub returns-in_err-end_row : goal.returns-in_err-end_row
returns-in_err-end_row c = record {
  does = search rules;
  spent = on_err c.from_residual-in_err-end_row.result
      (filling-stop_end _ _ _ _ _ _ _ _ _ _ c.loop-row.invariant.1 c.loop-row-test.true
      _ _ _ _ refl c.in_ok-keep_row.ensures.does.adds c.in_err-end_row.ensures.spent);
}

pub loop-row-preserved : goal.loop-row-preserved
loop-row-preserved c =
    let ended = c.in_ok-end_row.ensures.does in (
      ended.holds,
      filling-step _ _ _ _ _ _ _ _ _ _ c.loop-row.invariant.1 c.loop-row-test.true _ _ _ _
          refl refl
          c.in_ok-keep_row.ensures.does.adds ended.adds,
    )

pub returns : goal.returns
returns c = record {
  does = record {
    holds = c.loop-row.invariant.0;
    adds = filling-end _ _ _ _ _ _ _ _ _ _ c.loop-row.invariant.1
        (let t = c.loop-row-test.false in omega (arith, t));
  };
  spent = tt;
}
