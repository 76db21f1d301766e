-- A matrix, as "Matrices" of the GraphBLAS C API Specification 2.0 (chapter "Objects") defines one: its numbers of
-- rows and columns, and its content, which has at most one value at each position. So it is two sizes and a finite
-- map. The values are 64-bit words. That a size may be 0, and the limit on sizes and entries, are this project's own.
use Rattle.std.specs.Prelude.{◌≡◌, ◌≤◌, ◌<◌, ◌^◌, ◌==◌, ℕ, List, map, filter, length, nat_lt, refl, Some, IsSome}
use Rattle.std.specs.declared.cmp.Ordering.{Ordering}
use Rattle.std.specs.Ordering.{nat_cmp, ordering_then}
use Rattle.std.specs.Coded.{Coded, code_by, coded×, coded_ℕ}
use Rattle.std.specs.FinMap as fin

-- a row and a column, counted from 0
abbrev pub Position : Type 0
Position = ℕ × ℕ

-- a position with its value
abbrev pub Entry : Type 0
Entry = Position × ℕ

-- a column with its value, in a row that is known
abbrev pub Cell : Type 0
Cell = ℕ × ℕ

-- by row, and then by column
abbrev pub pos_cmp : Position → Position → Ordering
pos_cmp p q = ordering_then (nat_cmp p.0 q.0) (nat_cmp p.1 q.1)

pub record Grid : Type 0 where
  pub rows : ℕ
  pub columns : ℕ
  pub cells : fin.FinMap pos_cmp ℕ

-- a grid is stored as the tuple of its fields
abbrev pub grid_code : Coded Grid
grid_code =
    code_by (ℕ × (ℕ × fin.FinMap pos_cmp ℕ))
    (coded× coded_ℕ (coded× coded_ℕ (fin.code {R = pos_cmp} (coded× coded_ℕ coded_ℕ) coded_ℕ)))
    (λ g. (g.rows, (g.columns, g.cells))) (λ p. record { rows = p.0; columns = p.1.0; cells = p.1.1 }) (λ _. refl)

abbrev pub IsInside : Grid → Position → Type 0
IsInside g p = (p.0 < g.rows) × (p.1 < g.columns)

-- the most rows, columns and entries that a matrix may have
abbrev pub limit : ℕ
limit = 16777216

-- what holds of every matrix: sizes and entries up to the limit, each entry inside the sizes, each value a word
pub record IsGrid (g : Grid) : Type 0 where
  pub rows_small : g.rows ≤ limit
  pub columns_small : g.columns ≤ limit
  pub entries_small : fin.len g.cells ≤ limit
  pub inside : (p : Position) → IsSome (fin.get g.cells p) → IsInside g p
  pub words : (p : Position) (v : ℕ) → fin.get g.cells p ≡ Some v → v < 2 ^ 64

-- those of a list of entries that stand in row i, as cells
abbrev pub row_cells : ℕ → List Entry → List Cell
row_cells i es = map (λ (e : Entry). (e.0.1, e.1)) (filter (λ (e : Entry). e.0.0 == i) es)

-- row i, by ascending column
abbrev pub row_of : Grid → ℕ → List Cell
row_of g i = row_cells i (fin.entries g.cells)

-- the cells of row i, as entries
abbrev pub at_row : ℕ → List Cell → List Entry
at_row i row = map (λ (c : Cell). ((i, c.0), c.1)) row

-- how many entries stand in the rows before row i
abbrev pub row_start : Grid → ℕ → ℕ
row_start g i = length (filter (λ (e : Entry). nat_lt e.0.0 i) (fin.entries g.cells))
