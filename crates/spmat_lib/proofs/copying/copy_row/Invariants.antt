use Rattle.std.proofs.Common.{◌≡◌, ◌+◌, ◌++◌, map, take}
use Rattle.csr_store.specs.Grid.{at_row}
use Rattle.spmat_lib.specs.Answer.{part_of}
use Rattle.spmat_lib.proofs.copying.copy_row.Given as goal

abbrev pub invariant-loop-i : goal.invariant-loop-i
invariant-loop-i l = take (l.at + l.i) l.out ≡ take l.at l.fn.out ++ map (part_of l.part) (at_row l.row (take l.i l.cells))
