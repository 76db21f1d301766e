use Rattle.race_board.proofs.Calls.{draw_event, drawn_chunk, drawn_end, complete_event, fail_event}
use Rattle.race_board.proofs.laws.calls_are_events.Goals as goal

pub returns-clause-draw : goal.returns-clause-draw
returns-clause-draw c = draw_event

pub returns-clause-chunk : goal.returns-clause-chunk
returns-clause-chunk c = drawn_chunk

pub returns-clause-end : goal.returns-clause-end
returns-clause-end c = drawn_end

pub returns-clause-complete : goal.returns-clause-complete
returns-clause-complete c = complete_event

pub returns-clause-fail : goal.returns-clause-fail
returns-clause-fail c = fail_event
