-- A run of rows behind a stack of runs, which is a run itself: of all their rows, from row 0 on. This project's own.
use Rattle.std.specs.Prelude.{◌≡◌, ◌<◌, ◌≤◌, ◌++◌, ◌*◌, ◌/◌, [], length}
use Rattle.csr_store.specs.Grid.{limit}
use Rattle.csr_store.specs.Run.{Run, numbered}

-- the run is the next of a stack whose runs have 256 rows each, and has no more
pub record IsNext (run stack : Run) : Type 0 where
  pub first : run.first ≡ length stack.ended
  pub columns : run.columns ≡ stack.columns
  pub none_open : run.opened ≡ []
  pub full : length stack.ended / 256 * 256 ≡ length stack.ended
  pub some : 0 < length run.ended
  pub even : length run.ended ≤ 256
  pub small : length (numbered 0 (stack.ended ++ run.ended)) ≤ limit
