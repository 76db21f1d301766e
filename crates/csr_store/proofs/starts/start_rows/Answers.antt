use Rattle.std.proofs.Common.{arith}
use Rattle.csr_store.proofs.starts.start_rows.Goals as goal

pub overflow_add-rows : goal.overflow_add-rows
overflow_add-rows c = let s = c.requires.small in omega arith
