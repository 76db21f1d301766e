-- How a session stands: its desk, with what it reads from, what it writes to, and its budget. This project's own.
use Rattle.wire.specs.Devices.{SourceState, SinkState}
use Rattle.workspace.specs.Workspace.{state_of}
use Rattle.session.specs.Exchange.{Touched, Scene}
use Rattle.session.specs.declared.desk.Bench.{Bench}
use Rattle.session.specs.declared.desk.Desk.{Desk}

abbrev pub touched_at : {S : Type 0} → Bench → SinkState → S → Touched S
touched_at bench sink budget = record {
  budget = budget;
  out = record { sink = sink; waits = bench.output };
  state = state_of bench.workspace;
}

abbrev pub scene_at : {S : Type 0} → Desk → SourceState → SinkState → S → Scene S
scene_at desk source sink budget = record {
  stream = record { source = source; held = desk.input };
  touched = touched_at desk.bench sink budget;
}
