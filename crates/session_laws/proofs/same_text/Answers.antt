use Rattle.session_laws.proofs.Talks.{same_text}
use Rattle.session_laws.proofs.same_text.Goals as goal

pub returns : goal.returns
returns c = record { law = same_text }
