-- Where the rows of a matrix start. This project's own.
use Rattle.std.specs.Prelude.{◌+◌, ℕ, List, map}
use Rattle.std.specs.List.{range_with_len}
use Rattle.csr_store.specs.Grid.{Grid, row_start}

-- where each row starts, and at last where the rows end
abbrev pub starts_of : Grid → List ℕ
starts_of g = map (row_start g) (range_with_len 0 (g.rows + 1))
