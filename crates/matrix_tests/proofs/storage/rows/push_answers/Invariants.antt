use Rattle.std.proofs.Common.{◌≡◌, ◌+◌, length}
use Rattle.matrix_tests.proofs.storage.rows.push_answers.Given as goal

abbrev pub invariant-loop-column : goal.invariant-loop-column
invariant-loop-column l = length l.answers.items ≡ length l.fn.answers.items + l.column-index
