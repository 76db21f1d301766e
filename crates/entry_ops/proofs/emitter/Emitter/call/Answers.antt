use Rattle.std.proofs.Common.{rules}
use Rattle.entry_ops.proofs.Placing.{called-fits, called, called-spent}
use Rattle.entry_ops.proofs.Standing.{on_err}
use Rattle.entry_ops.proofs.emitter.Emitter.call.Goals as goal

pub push-requires-clause-within : goal.push-requires-clause-within
push-requires-clause-within c = (called-fits c.args.operator.now c.args.self.now c.args.calls.now c.make_room.new.self
    c.make_room.new.calls c.make_room.ensures.does _ _ _ c.self.view_is c.args.column c.requires.can.fits).0

pub push-requires-clause-above : goal.push-requires-clause-above
push-requires-clause-above c = (called-fits c.args.operator.now c.args.self.now c.args.calls.now c.make_room.new.self
    c.make_room.new.calls c.make_room.ensures.does _ _ _ c.self.view_is c.args.column c.requires.can.fits).1

pub returns : goal.returns
returns c = record {
  does = called c.args.operator.now c.args.self.now c.args.calls.now c.make_room.new.self c.make_room.new.calls
      c.make_room.ensures.does _ _ _ c.self.view_is
      c.args.column 0 c.args.operands _ _ _ _ c.self.invariant c.make_room.ensures.calls c.in_ok-push.ensures.pushed
      c.len.ensures.len c.entries.ensures c.gather.ensures;
  spent = tt;
}

pub returns-in_err-push : goal.returns-in_err-push
returns-in_err-push c = record {
  does = search rules;
  spent = on_err c.from_residual.result (called-spent c.args.operator.now c.args.self.now c.args.calls.now c.make_room.new.self
      c.make_room.new.calls c.make_room.ensures.does _ _ _ c.self.view_is);
}
