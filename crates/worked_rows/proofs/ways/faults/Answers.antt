use Rattle.worked_rows.proofs.Witnesses.{unset, mixed, unstored}
use Rattle.worked_rows.proofs.ways.faults.Goals as goal

pub returns-clause-unset : goal.returns-clause-unset
returns-clause-unset c = unset

pub returns-clause-mixed : goal.returns-clause-mixed
returns-clause-mixed c = mixed

pub returns-clause-unstored : goal.returns-clause-unstored
returns-clause-unstored c = unstored
