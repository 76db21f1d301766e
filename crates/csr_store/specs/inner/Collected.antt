-- What a builder keeps: entries that came in ascending order, and the others by position. This project's own.
use Rattle.std.specs.Prelude.{◌≡◌, List, ◌++◌, length, true}
use Rattle.std.specs.FinMap as fin
use Rattle.csr_store.specs.Grid.{IsGrid, Entry, pos_cmp}
use Rattle.csr_store.specs.ByRows.{grid}
use Rattle.csr_store.specs.Listed.{Listed, NoneTwice}

-- all of them together make a matrix, and no two have one position
pub record IsCollected (ascending : Listed) (others : List Entry) : Type 0 where
  pub rises : fin.is_sorted pos_cmp ascending.entries ≡ true
  pub once : NoneTwice (ascending.entries ++ others)
  pub count : fin.len (fin.from_entries {R = pos_cmp} (ascending.entries ++ others)) ≡ length (ascending.entries ++ others)
  pub is_grid : IsGrid (grid ascending.rows ascending.columns (ascending.entries ++ others))
