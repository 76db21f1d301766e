use Rattle.std.proofs.Common.{◌≡◌, ◌-◌, length}
use Rattle.csr_store.specs.Grid.{row_of}
use Rattle.csr_store.specs.Along.{along}
use Rattle.matrix_tests.proofs.storage.rows.odd_columns.Given as goal

abbrev pub invariant-loop-row : goal.invariant-loop-row
invariant-loop-row l = length l.answers.items ≡ length (along (row_of l.matrix) l.fn.from (l.row - l.fn.from))
