use Rattle.std.proofs.Common.{◌≡◌, ◌≤◌, ◌+◌, vec_len, vec_capacity}
use Rattle.std.specs.List.{AllByRecursion}
use Rattle.job_runner.specs.inner.Crew.{AreWorkerOutputs}
use Rattle.job_runner.proofs.crew.join_all.Given as goal

abbrev pub invariant-loop-handle : goal.invariant-loop-handle
invariant-loop-handle g l = record {
  promised : AllByRecursion (λ h. h.promise ≡ l.task) l.handles.items;
  capacity : vec_len l.outputs.seats + vec_len l.handles ≤ vec_capacity l.outputs.seats;
  outputs : AreWorkerOutputs l.task.board.now l.task.plan.now l.outputs;
  len : vec_len l.outputs.seats + vec_len l.handles ≡ vec_len l.fn.outputs.seats + vec_len l.fn.handles;
}

abbrev pub decreases-loop-handle : goal.decreases-loop-handle
decreases-loop-handle g l = vec_len l.handles
