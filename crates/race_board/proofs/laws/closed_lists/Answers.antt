use Rattle.race_board.proofs.Chunks.{closed_completed, closed_recorded, recorded_steps, recorded_completed, recorded_within}
use Rattle.std.specs.Prelude.{length}
use Rattle.race_board.proofs.laws.closed_lists.Goals as goal

pub returns-clause-completed : goal.returns-clause-completed
returns-clause-completed c = λ board workers totals closing finished told. closed_completed (length board.prices) workers (closing.completed finished told)

pub returns-clause-recorded : goal.returns-clause-recorded
returns-clause-recorded c = λ board workers totals closing. closed_recorded (length board.prices) workers closing.once

pub returns-clause-steps : goal.returns-clause-steps
returns-clause-steps c = recorded_steps

pub returns-clause-drained : goal.returns-clause-drained
returns-clause-drained c = recorded_completed

pub returns-clause-within : goal.returns-clause-within
returns-clause-within c = λ board workers totals closing. recorded_within board.prices workers closing.within
