use Rattle.std.proofs.Common.{[], refl}
use Rattle.workspace.specs.Workspace.{state_of}
use Rattle.workspace.proofs.Turning.{answered_named, priced_right, priced_wrong}
use Rattle.workspace.proofs.jobs.submit_job.Goals as goal

pub reserve-requires-clause-named : goal.reserve-requires-clause-named
reserve-requires-clause-named g c = answered_named c.args.job c.in-Ok.job _ c.in-Ok.ensures c.requires.named

pub returns-in-Ok-clause-turn : goal.returns-in-Ok-clause-turn
returns-in-Ok-clause-turn g c =
    let turn = c.reserve.ensures.turn in (
      turn.0,
      priced_right (state_of c.args.workspace.now) (state_of c.reserve.new.workspace) c.args.job c.in-Ok.job turn.0 _ _ c.in-Ok.ensures turn.1,
      turn.2,
    )

pub returns-clause-turn : goal.returns-clause-turn
returns-clause-turn g c =
    ([], priced_wrong (state_of c.args.workspace.now) c.args.job c.in-Err.field-0-0 c.in-Err.fault _ _ c.in-Err.ensures c.refuse.ensures, refl)
