-- What is left of a row that is read along. This project's own.
use Rattle.std.specs.Prelude.{ℕ, ◌^◌, ◌-◌, List, [], ◌∷◌}
use Rattle.csr_store.specs.Grid.{Cell}

-- the column of the first cell, and the greatest word where there is none
abbrev pub first_column : List Cell → ℕ
first_column [] = 2 ^ 64 - 1
first_column (c ∷ cs) = c.0
