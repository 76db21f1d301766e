use Rattle.std.proofs.Common.{◌≡◌, ◌≤◌, vec_capacity}
use Rattle.wire.specs.Fetching.{Fetched, reach}
use Rattle.wire.proofs.fetch.next_line.Given as goal

abbrev pub invariant-reading : goal.invariant-reading
invariant-reading g l = record {
  fetched : Fetched 0 (record { source = g.R.Asked.state l.fn.reader; held = l.fn.input }) (record { source = g.R.Asked.state l.reader; held = l.input }) (λ bytes. l.input.bytes ≡ bytes);
  capacity : 1026 ≤ vec_capacity l.line;
  bounded : reach l.input ≤ reach l.fn.input;
}

abbrev pub decreases-reading : goal.decreases-reading
decreases-reading g l = l.input.reads_left
