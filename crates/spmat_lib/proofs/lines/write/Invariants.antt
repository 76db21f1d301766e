use Rattle.std.proofs.Common.{◌≡◌, ◌≤◌, ◌*◌, drop, length}
use Rattle.spmat_lib.specs.Lines.{lines}
use Rattle.spmat_lib.proofs.lines.write.Given as goal

abbrev pub invariant-loop-left : goal.invariant-loop-left
invariant-loop-left l = record {
  few : l.left ≤ length l.rows;
  above : 40 * l.left ≤ l.start;
  within : l.start ≤ length l.out;
  written : drop l.start l.out ≡ lines (drop l.left l.rows) (drop l.left l.columns) (drop l.left l.values);
}

abbrev pub decreases-loop-left : goal.decreases-loop-left
decreases-loop-left l = l.left
