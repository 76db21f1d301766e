use Rattle.session_laws.proofs.Examples.{rule_talk, want_talk}
use Rattle.session_laws.proofs.want_told.Goals as goal

pub returns-clause-rule : goal.returns-clause-rule
returns-clause-rule c = rule_talk

pub returns-clause-want : goal.returns-clause-want
returns-clause-want c = want_talk
