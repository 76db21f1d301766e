use Rattle.session_laws.proofs.Beginnings.{said_by_commands}
use Rattle.session_laws.proofs.said_by_commands.Goals as goal

pub returns : goal.returns
returns c = record { law = said_by_commands }
