use Rattle.std.proofs.Common.{◌≡◌, replicate, vec_len}
use Rattle.std.specs.Prelude.{None}
use Rattle.job_runner.proofs.completed_pieces.no_pieces.Given as goal

abbrev pub invariant-loop-nth : goal.invariant-loop-nth
invariant-loop-nth l = record {
  len : vec_len l.completed_pieces ≡ l._nth;
  none : l.completed_pieces.items ≡ replicate l._nth None;
}
