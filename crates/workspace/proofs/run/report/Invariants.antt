use Rattle.std.proofs.Common.{◌≡◌, ◌≤◌, ◌+◌, ◌*◌, ◌++◌, [], length, map}
use Rattle.std.specs.List.{flat_map}
use Rattle.std.specs.Iterator.Adapters.{zip_first, zip_second}
use Rattle.std.specs.Slice.Iter.{iter_rest}
use Rattle.command_text.specs.Replies.{job_text, run_text}
use Rattle.job_runner.specs.Batch.{result_of}
use Rattle.workspace.specs.Queued.{AreNamed}
use Rattle.workspace.specs.Turn.{job_lines}
use Rattle.workspace.proofs.run.report.Given as goal

abbrev pub invariant-loop-job : goal.invariant-loop-job
invariant-loop-job l = record {
  can_next : (goal.iterator-loop-job).can_next l.job-iterator;
  is_finite : (goal.iterator-loop-job).is_finite l.job-iterator;
  written : l.reply.line ++ flat_map job_text (job_lines (iter_rest (zip_first l.job-iterator)) (map result_of (iter_rest (zip_second l.job-iterator))))
      ≡ run_text l.spent (job_lines l.jobs (map result_of l.results));
  named : AreNamed (iter_rest (zip_first l.job-iterator));
  bare : l.reply.text ≡ [];
  capacity : length l.reply.line + 117 * length (iter_rest (zip_first l.job-iterator)) ≤ 8192;
}
