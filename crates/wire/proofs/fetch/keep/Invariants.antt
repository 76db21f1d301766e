use Rattle.std.proofs.Common.{◌≡◌, ◌≤◌, ◌<◌, [], vec_len}
use Rattle.wire.specs.Fetching.{Fetched, reach}
use Rattle.wire.proofs.Gathering.{IsKeeping}
use Rattle.wire.proofs.fetch.keep.Given as goal

abbrev pub invariant-reading : goal.invariant-reading
invariant-reading g l = record {
  fetched : Fetched 0 (record { source = g.R.Asked.state l.fn.reader; held = l.fn.input }) (record { source = g.R.Asked.state l.reader; held = l.input }) (IsKeeping l.fn.first.items l.came l.body.items l.input.bytes);
  came : l.came ≤ vec_len l.body;
  within : vec_len l.body ≤ l.length;
  none : l.came < l.length → l.input.bytes ≡ [];
  bounded : reach l.input ≤ reach l.fn.input;
}

abbrev pub decreases-reading : goal.decreases-reading
decreases-reading g l = l.input.reads_left
