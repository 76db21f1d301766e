-- Cells of a row that a row of a mask shows. This project's own.
use Rattle.std.specs.Prelude.{if◌then◌else◌, List, [], ◌∷◌, Some}
use Rattle.csr_store.specs.Grid.{Cell}
use Rattle.csr_store.specs.Ascending.{shows}

-- the cells at whose columns the mask's row has one
abbrev pub cells_shown : List Cell → List Cell → List Cell
cells_shown mask [] = []
cells_shown mask (c ∷ cells) = if shows (Some mask) c.0 then c ∷ cells_shown mask cells else cells_shown mask cells
