use Rattle.session_laws.proofs.Beginnings.{same_first}
use Rattle.session_laws.proofs.same_first.Goals as goal

pub returns : goal.returns
returns c = record { law = same_first }
