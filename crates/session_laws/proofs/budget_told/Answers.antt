use Rattle.session_laws.proofs.Examples.{budget_talk}
use Rattle.session_laws.proofs.budget_told.Goals as goal

pub returns : goal.returns
returns c = record { talk = budget_talk }
