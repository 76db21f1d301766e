-- What the matrices of the worked rows store: by place, and by row.
use Rattle.std.proofs.Common.{◌≡◌, ℕ, true, List, [], ◌∷◌, ap}
use Rattle.std.specs.FinMap.{get, is_sorted, get-from_entries}
use Rattle.std.specs.FinMap.Entries.{find}
use Rattle.csr_store.specs.Grid.{Entry, pos_cmp, Position, row_of, row_cells}
use Rattle.csr_store.specs.ByRows.{grid}
use Rattle.csr_store.proofs.Order.{pos_total}
use Rattle.csr_store.proofs.Laws.{entries-from_entries}

pub at_place : (rows columns : ℕ) (es : List Entry) (p : Position) → get (grid rows columns es).cells p ≡ find pos_cmp p es
at_place rows columns es p = get-from_entries pos_total es p

pub in_row : (rows columns : ℕ) (es : List Entry) (i : ℕ) → is_sorted pos_cmp es ≡ true → row_of (grid rows columns es) i ≡ row_cells i es
in_row rows columns es i sorted = ap (row_cells i) (entries-from_entries es sorted)

-- ---- the entries that the matrices are made of

abbrev pub of_wide : List Entry
of_wide = ((0, 0), 10) ∷ ((0, 1), 3) ∷ []

abbrev pub of_tall : List Entry
of_tall = ((0, 0), 1) ∷ ((1, 0), 1) ∷ []

abbrev pub of_two : List Entry
of_two = ((0, 0), 3) ∷ ((0, 1), 4) ∷ []

abbrev pub of_three : List Entry
of_three = ((0, 0), 10) ∷ ((0, 1), 3) ∷ ((0, 2), 2) ∷ []
