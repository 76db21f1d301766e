use Rattle.race_board.proofs.Chunks.{completed_steps, recorded_at_most}
use Rattle.race_board.proofs.laws.steps_by_chunk.Goals as goal

pub returns-clause-just : goal.returns-clause-just
returns-clause-just c = completed_steps

pub returns-clause-at_most : goal.returns-clause-at_most
returns-clause-at_most c = recorded_at_most
