-- Where rows start that are stacked on one another. This project's own.
use Rattle.std.specs.Prelude.{◌≤◌, ◌+◌, ℕ, List, take}
use Rattle.csr_store.specs.Grid.{Grid}
use Rattle.csr_store.specs.inner.Starts.{starts_of}
use Rattle.csr_store.specs.declared.growing.SoFar.{SoFar}
use Rattle.csr_store.specs.declared.growing.SoFar.TheVariants.{Alike, Listed}

-- the starts so far, beside those of a matrix
abbrev pub first_of : Grid → SoFar → List ℕ
first_of g (Alike count) = take count (starts_of g)
first_of g (Listed starts) = starts.items

-- no more are alike than the matrix has
abbrev pub AreFirst : Grid → SoFar → Type 0
AreFirst g (Alike count) = count ≤ g.rows + 1
AreFirst g (Listed starts) = Unit {0}
