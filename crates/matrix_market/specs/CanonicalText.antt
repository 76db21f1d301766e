-- The text of a matrix in the coordinate format of the Matrix Market exchange formats of NIST
-- (https://math.nist.gov/MatrixMarket/formats.html, "Coordinate Format for Sparse Matrices"), with the qualifiers
-- `integer` and `general`. Among the texts of one matrix this is the one that is written here: no comment, the entries
-- by ascending row and column, single spaces, numbers with no leading zero and no sign but `-`, and LF after each line.
use Rattle.std.specs.Prelude.{ℕ, ◌+◌, List, [], ◌∷◌, ◌++◌, codes, decimal}
use Rattle.std.specs.Fmt.{signed_decimal}
use Rattle.std.specs.Int.{cast_signed, w64}
use Rattle.std.specs.List.{flat_map, join_with_byte}
use Rattle.std.specs.FinMap as fin
use Rattle.csr_store.specs.Grid.{Grid, Entry}

abbrev pub banner : List ℕ
banner = codes "%%MatrixMarket matrix coordinate integer general\n"

-- fields with a space between them, and LF at the end
abbrev pub line_of : List (List ℕ) → List ℕ
line_of fields = join_with_byte 32 fields ++ 10 ∷ []

-- rows, columns and the number of entries
abbrev pub size_line : ℕ → ℕ → ℕ → List ℕ
size_line rows columns entries = line_of (decimal rows ∷ decimal columns ∷ decimal entries ∷ [])

-- a 64-bit word, read as a signed number
abbrev pub value_text : ℕ → List ℕ
value_text word = signed_decimal (cast_signed w64 word)

-- row and column, which count from 1 in text, and the value
abbrev pub entry_line : Entry → List ℕ
entry_line e = line_of (decimal (e.0.0 + 1) ∷ decimal (e.0.1 + 1) ∷ value_text e.1 ∷ [])

-- by ascending row, and within a row by ascending column
abbrev pub entry_lines : List Entry → List ℕ
entry_lines es = flat_map entry_line es

unfoldable pub canonical_text : Grid → List ℕ
canonical_text g = banner ++ size_line g.rows g.columns (fin.len g.cells) ++ entry_lines (fin.entries g.cells)
