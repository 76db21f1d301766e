-- How the columns of all entries are listed beside them. This project's own.
use Rattle.std.specs.Prelude.{◌≡◌, ℕ, List, IfSome}
use Rattle.std.specs.List.{AllByRecursion}
use Rattle.csr_store.specs.Columns.{columns_of}
use Rattle.csr_store.specs.Grid.{Cell}
use Rattle.csr_store.specs.declared.narrow.Narrow.{Narrow}

-- all cells have this word
abbrev pub HaveWord : ℕ → List Cell → Type 0
HaveWord w cells = AllByRecursion (λ (c : Cell). c.1 ≡ w) cells

-- the columns are those of the cells, which all have the word, if one is kept
pub record IsNarrow (cells : List Cell) (n : Narrow) : Type 0 where
  pub columns : n.columns.items ≡ columns_of cells
  pub only : IfSome n.only (λ w. HaveWord w cells)
