use Rattle.std.proofs.Common.{◌≡◌, take}
use Rattle.race_board.specs.Race.{worker, times_completed}
use Rattle.race_board.specs.declared.worker_state.WorkerState.TheVariants.{Free}
use Rattle.race_board.proofs.worker.WorkerRecord.steps_of.Given as goal

abbrev pub invariant-loop-done : goal.invariant-loop-done
invariant-loop-done l = times_completed l.chunk (worker 0 (take l.done-index l.done-items) Free) ≡ 0
