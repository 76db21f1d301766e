use Rattle.std.proofs.Common.{map, drop}
use Rattle.job_runner.specs.Batch.{result_of}
use Rattle.workspace.proofs.Running.{IsTotalling}
use Rattle.workspace.proofs.run.total.Given as goal

abbrev pub invariant-loop-result : goal.invariant-loop-result
invariant-loop-result l = IsTotalling (map result_of l.results) (map result_of (drop l.result-index l.results)) l.steps l.result-index
