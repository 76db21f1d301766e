use Rattle.std.proofs.Common.{◌≡◌, ◌≤◌, ◌-◌, length, take}
use Rattle.std.specs.Io.KnownBytes.{Appends}
use Rattle.wire.proofs.device.put.Given as goal

abbrev pub invariant-loop-at : goal.invariant-loop-at
invariant-loop-at g l = record {
  fine : (g.W.Sink.state l.writer).failures ≡ (g.W.Sink.state l.fn.writer).failures;
  inside : l.at ≤ length l.text;
  written : Appends (g.W.Sink.state l.fn.writer).contents (g.W.Sink.state l.writer).contents (take l.at l.text);
}

abbrev pub decreases-loop-at : goal.decreases-loop-at
decreases-loop-at g l = length l.text - l.at
