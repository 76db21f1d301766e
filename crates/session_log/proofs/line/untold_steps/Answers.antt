use Rattle.std.proofs.Common.{rules}
use Rattle.std.proofs.Output.{has_written_append}
use Rattle.session_log.proofs.line.untold_steps.Goals as goal

pub returns : goal.returns
returns g c plain ok =
    let first = c.number.ensures plain (search rules) in
    has_written_append _ _ _ _ _ _ first (c.number-2.ensures first.plain ok)
