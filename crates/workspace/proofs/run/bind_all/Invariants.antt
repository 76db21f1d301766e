use Rattle.std.proofs.Common.{◌≡◌, map, length}
use Rattle.std.specs.Iterator.Adapters.{zip_first, zip_second}
use Rattle.std.specs.Slice.Iter.{iter_rest}
use Rattle.std.specs.Vec.Iter.{into_iter_items, into_iter_len}
use Rattle.workspace.specs.inner.Outputs.{AreDeclared, grid_at}
use Rattle.job_runner.specs.Batch.{result_of}
use Rattle.workspace.specs.Turn.{all_bound}
use Rattle.workspace.proofs.run.bind_all.Given as goal

abbrev pub invariant-loop-job : goal.invariant-loop-job
invariant-loop-job l = record {
  can_next : (goal.iterator-loop-job).can_next l.job-iterator;
  is_finite : (goal.iterator-loop-job).is_finite l.job-iterator;
  same : length (iter_rest (zip_first l.job-iterator)) ≡ into_iter_len (zip_second l.job-iterator);
  declared : AreDeclared l.matrices.declared (iter_rest (zip_first l.job-iterator));
  bound : all_bound (grid_at l.matrices.declared) (iter_rest (zip_first l.job-iterator)) (map result_of (into_iter_items (zip_second l.job-iterator)))
      ≡ all_bound (grid_at l.fn.matrices.declared) l.jobs (map result_of l.fn.results.items);
}
