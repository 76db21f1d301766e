-- The columns of cells by themselves, and a word that all entries of a matrix have. This project's own.
use Rattle.std.specs.Prelude.{◌≡◌, ℕ, List, Option, Some, IfSome, map}
use Rattle.std.specs.FinMap as fin
use denote.Ref.{Bor}
use Rattle.csr_store.specs.Grid.{Grid, Cell, Position}

-- the columns of a row's cells
abbrev pub columns_of : List Cell → List ℕ
columns_of row = map (λ (c : Cell). c.0) row

-- what is lent as the columns of a row is these, if anything is lent
abbrev pub AreColumnsOf : List Cell → Option (Bor (List ℕ)) → Type 0
AreColumnsOf row lent = IfSome lent (λ (c : Bor (List ℕ)). c.now ≡ columns_of row)

-- each entry has this word
abbrev pub IsOnlyWord : Grid → ℕ → Type 0
IsOnlyWord g w = (p : Position) (v : ℕ) → fin.get g.cells p ≡ Some v → v ≡ w
