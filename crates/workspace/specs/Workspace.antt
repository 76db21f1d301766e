-- What the session keeps, as what it holds (this project's own).
use Rattle.std.specs.Option.{option_map}
use Rattle.std.specs.Arc.{arc_value}
use Rattle.workspace.specs.State.{State}
use Rattle.workspace.specs.Names.{value_at}
use Rattle.workspace.specs.declared.workspace.Workspace.{Workspace}

abbrev pub state_of : Workspace → State
state_of w = record {
  matrices = λ name. option_map arc_value (value_at w.matrices.declared name);
  operators = λ name. option_map arc_value (value_at w.operators.declared name);
  queue = w.queue;
  workers = w.workers;
}
