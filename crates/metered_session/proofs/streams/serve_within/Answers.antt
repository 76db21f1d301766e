use Rattle.std.proofs.Common.{◌∙◌, ap}
use Rattle.metered_session.proofs.Serving.{said_within, same_purse, spent_of_pass, still_within}
use Rattle.metered_session.proofs.streams.serve_within.Goals as goal

pub returns-clause-said : goal.returns-clause-said
returns-clause-said g c =
    let s = c.serve_counting-outcome in
    said_within c.args.given.session c.new-meter.result s.new.steps c.args.given.pass c.into_pass.result c.args.given.limits c.spent-spent.result
    _ _ _ _ s.result.0 (c.new-meter.ensures ∙ ap (λ p. record { pass = p; spent = 0; limits = c.args.given.limits }) c.new.ensures)
    c.into_pass.ensures c.spent-spent.ensures s.ensures.said

pub returns-clause-own : goal.returns-clause-own
returns-clause-own g c =
    let s = c.serve_counting-outcome in
    let same = same_purse c.args.given.session c.new-meter.result s.new.steps c.args.given.pass c.into_pass.result c.args.given.limits c.spent-spent.result
    _ _ _ _ s.result.0 (c.new-meter.ensures ∙ ap (λ p. record { pass = p; spent = 0; limits = c.args.given.limits }) c.new.ensures)
    c.into_pass.ensures c.spent-spent.ensures s.ensures.said in
    (same.0 ∙ c.requires.own.0, same.1 ∙ c.requires.own.1)

pub returns-clause-within : goal.returns-clause-within
returns-clause-within g c =
    let s = c.serve_counting-outcome in
    still_within c.args.given.session c.new-meter.result s.new.steps c.args.given.pass c.into_pass.result c.args.given.limits c.spent-spent.result
    _ _ _ _ s.result.0 (c.new-meter.ensures ∙ ap (λ p. record { pass = p; spent = 0; limits = c.args.given.limits }) c.new.ensures)
    c.into_pass.ensures c.spent-spent.ensures s.ensures.said c.requires.within

pub returns-clause-spent : goal.returns-clause-spent
returns-clause-spent g c ds own =
    let s = c.serve_counting-outcome in
    spent_of_pass c.args.given.session c.new-meter.result s.new.steps c.args.given.pass c.into_pass.result c.args.given.limits c.spent-spent.result
    _ _ _ _ s.result.0 (c.new-meter.ensures ∙ ap (λ p. record { pass = p; spent = 0; limits = c.args.given.limits }) c.new.ensures)
    c.into_pass.ensures c.spent-spent.ensures s.ensures.said ds own
