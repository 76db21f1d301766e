use Rattle.std.proofs.Common.{◌≡◌, map, take}
use Rattle.std.specs.FinMap.{entries}
use Rattle.csr_store.specs.Grid.{row_start}
use Rattle.spmat_lib.specs.Answer.{part_of}
use Rattle.spmat_lib.proofs.copying.copy.Given as goal

abbrev pub invariant-loop-row : goal.invariant-loop-row
invariant-loop-row l = record {
  place : l.at ≡ row_start l.matrix l.row;
  copied : take l.at l.out ≡ map (part_of l.part) (take l.at (entries l.matrix.cells));
}
