use Rattle.std.proofs.Common.{◌≡◌, take, drop}
use Rattle.wire.specs.Lines.{cut_line, after_front}
use Rattle.wire.proofs.lines.line_end.Given as goal

abbrev pub invariant-loop-i : goal.invariant-loop-i
invariant-loop-i l = cut_line l.bytes ≡ after_front (take l.i l.bytes) (cut_line (drop l.i l.bytes))
