use Rattle.std.proofs.Common.{◌≡◌, ◌++◌}
use Rattle.std.specs.FinMap.{len}
use Rattle.matrix_market.specs.CanonicalText.{banner, size_line}
use Rattle.matrix_market.proofs.Writing.{lines_before}
use Rattle.matrix_market.proofs.writer.write.Given as goal

abbrev pub invariant-loop-row : goal.invariant-loop-row
invariant-loop-row l = l.out.items ≡ (banner ++ size_line l.matrix.rows l.matrix.columns (len l.matrix.cells)) ++ lines_before l.matrix l.row
