use Rattle.entry_ops.proofs.Placing.{can-push, does-copy}
use Rattle.entry_ops.proofs.Standing.{on_ok_then, on_err_then, charges-kept}
use Rattle.entry_ops.proofs.form.emit.Goals as goal

pub copy-requires : goal.copy-requires
copy-requires c = can-push c.args.operator.now c.args.emitter.now c.args.calls.now c.requires.can.holds c.args.pair.column
    c.requires.can.fits

pub copy-requires-in-None-Some : goal.copy-requires-in-None-Some
copy-requires-in-None-Some c = can-push c.args.operator.now c.args.emitter.now c.args.calls.now c.requires.can.holds
    c.args.pair.column c.requires.can.fits

pub returns-in-Some-None : goal.returns-in-Some-None
returns-in-Some-None c = record {
  does = rw (c.in-Union.is, c.in-Some-None.is-0, c.in-Some-None.is-1) (on_ok_then c.copy.result
      (does-copy c.args.operator.now c.args.emitter.now c.args.calls.now c.requires.can.holds c.args.pair.column c.in-Some-None.x
      c.copy.new.self) c.copy.ensures.copied);
  spent = on_err_then c.copy.result (charges-kept _ _ _) c.copy.ensures.unchanged;
}

pub returns-in-None-Some : goal.returns-in-None-Some
returns-in-None-Some c = record {
  does = rw (c.in-Union.is, c.in-None-Some.is-0, c.in-None-Some.is-1) (on_ok_then c.copy-in-None-Some.result
      (does-copy c.args.operator.now c.args.emitter.now c.args.calls.now c.requires.can.holds c.args.pair.column c.in-None-Some.y
      c.copy-in-None-Some.new.self) c.copy-in-None-Some.ensures.copied);
  spent = on_err_then c.copy-in-None-Some.result (charges-kept _ _ _) c.copy-in-None-Some.ensures.unchanged;
}
