use Rattle.entry_ops.proofs.Placing.{does-flush}
use Rattle.entry_ops.proofs.emitter.Emitter.make_room.Goals as goal

pub returns-then-len-eq-MOST_CALLS-clause-does : goal.returns-then-len-eq-MOST_CALLS-clause-does
returns-then-len-eq-MOST_CALLS-clause-does c =
    let e = c.flush.ensures in
    does-flush c.args.operator.now c.args.self.now c.flush.new.self c.args.calls.now c.flush.new.calls e.rows e.steps e.none e.kind
