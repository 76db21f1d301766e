use Rattle.metered_session.proofs.Serving.{outcome_drawn}
use Rattle.metered_session.proofs.streams.serve_unlimited.Goals as goal

pub returns-clause-said : goal.returns-clause-said
returns-clause-said g c =
    let s = c.serve_within in
    outcome_drawn c.args.given.session _ _ s.result.outcome c.requires.unlimited s.ensures.said
