use Rattle.std.proofs.Common.{rules}
use Rattle.bpf_run.proofs.Charging.{charges-all}
use Rattle.entry_ops.proofs.SelectBuffer.{does-flush}
use Rattle.entry_ops.proofs.Standing.{on_err}
use Rattle.entry_ops.proofs.select_buffer.SelectBuffer.make_room.Goals as goal

pub returns-in_err-flush-clause-puts : goal.returns-in_err-flush-clause-puts
returns-in_err-flush-clause-puts c = record {
  does = search rules;
  spent = on_err c.from_residual.result (charges-all _ _ _ c.in_err-flush.ensures.spent);
}

pub returns-clause-puts : goal.returns-clause-puts
returns-clause-puts c =
    let e = c.in_ok-flush.ensures.flushed in
    record {
      does = does-flush c.args.operator.now c.args.self.now c.flush.new.self c.args.calls.now c.flush.new.calls e.state e.none
          e.kind;
      spent = tt;
    }
