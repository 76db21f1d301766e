use Rattle.std.proofs.Common.{[], refl}
use Rattle.command_text.specs.Readings.{submission_of}
use Rattle.workspace.specs.Workspace.{state_of}
use Rattle.workspace.proofs.Turning.{submit_full}
use Rattle.workspace.proofs.jobs.submit_found.Goals as goal

pub returns-then-not-has_room-clause-turn : goal.returns-then-not-has_room-clause-turn
returns-then-not-has_room-clause-turn g c =
    let s = submission_of c.args.submission.now in (
      [],
      submit_full (state_of c.args.workspace.now) s _ c.has_room.result _ c.in-Some.ensures c.has_room.ensures.1 c.if-not-has_room.true
          c.refuse-then-not-has_room.ensures,
      refl,
    )
