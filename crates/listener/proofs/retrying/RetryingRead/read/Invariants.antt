use Rattle.std.proofs.Common.{◌≡◌, length}
use Rattle.std.specs.Io.KnownBytes.{Keeps}
use Rattle.listener.proofs.retrying.RetryingRead.read.Given as goal

abbrev pub invariant-loop : goal.invariant-loop
invariant-loop g l = record {
  kept : Keeps (g.R.Read.remaining l.fn.self.device) (g.R.Read.remaining l.self.device);
  size : length l.buf ≡ length l.fn.buf;
}
