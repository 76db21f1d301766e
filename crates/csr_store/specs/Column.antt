-- A matrix of one column, row by row. This project's own.
use Rattle.std.specs.Prelude.{◌≡◌, ℕ, List, Option, IfSome, map}
use Rattle.std.specs.List.{range_with_len}
use Rattle.std.specs.FinMap as fin
use denote.Ref.{Bor}
use Rattle.csr_store.specs.Grid.{Grid}

-- what stands at each row of the first column, if anything does
abbrev pub column_of : Grid → List (Option ℕ)
column_of g = map (λ k. fin.get g.cells (k, 0)) (range_with_len 0 g.rows)

-- what is lent as a copy of this matrix's column is one, if anything is lent
abbrev pub IsCopyOf : Grid → Option (Bor (List (Option ℕ))) → Type 0
IsCopyOf g lent = IfSome lent (λ (c : Bor (List (Option ℕ))). c.now ≡ column_of g)
