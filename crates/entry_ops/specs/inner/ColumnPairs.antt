-- Columns that are joined row by row, of which one has a word in each row. This project's own.
use Rattle.std.specs.Prelude.{◌≡◌, refl, ℕ, ◌+◌, ◌^◌, ◌<◌, ◌≤◌, Bool, true, if◌then◌else◌}
use Rattle.std.specs.Prelude.{List, map, length, take, Option, None, Some}
use Rattle.std.specs.Coded.{Coded, code_by, coded×, coded_ℕ}
use Rattle.std.specs.FinMap as fin
use Rattle.bpf_run.specs.Calls.{steps_of}
use Rattle.bpf_verify.specs.Accepted.{Accepted}
use Rattle.csr_store.specs.Along.{along}
use Rattle.csr_store.specs.Grid.{Grid, grid_code, IsGrid, Cell, row_of}
use Rattle.csr_store.specs.Run.{IsInRun}
use Rattle.csr_store.specs.Mask.{mask_of}
use Rattle.entry_ops.specs.declared.form.EntryForm.{EntryForm}
use Rattle.entry_ops.specs.declared.operand_rows.Sources.{Sources}
use Rattle.entry_ops.specs.declared.column_pairs.ColumnPair.{ColumnPair}
use Rattle.entry_ops.specs.declared.column_pairs.JoinedWords.{JoinedWords}
use Rattle.entry_ops.specs.inner.Forms.{Form, Apply, Select, Union, Both, form_of}
use Rattle.entry_ops.specs.inner.Walking.{is_joint, form_row, form_all_calls}

-- a column, the row that comes next, and where the rows end that are read
pub record ColumnReading : Type 0 where
  pub grid : Grid
  pub row : ℕ
  pub end : ℕ

-- a reading is stored as the tuple of its fields
abbrev pub reading_code : Coded ColumnReading
reading_code =
    code_by (Grid × (ℕ × ℕ)) (coded× grid_code (coded× coded_ℕ coded_ℕ)) (λ r. (r.grid, (r.row, r.end)))
    (λ p. record { grid = p.0; row = p.1.0; end = p.1.1 }) (λ _. refl)

-- the word of row i of a column
abbrev pub word_in : Grid → ℕ → Option ℕ
word_in g i = fin.get g.cells (i, 0)

-- a word, if it is there
abbrev pub word_if : ℕ × Bool → Option ℕ
word_if w = if w.1 then Some w.0 else None

-- the words of row i of a form
abbrev pub joined_words : Form → Accepted → Grid → Grid → ℕ → List ℕ
joined_words form f a b i = map (λ (c : Cell). c.1) (form_row form f a (Some b) None i)

-- rows of two columns, all in one run
pub record IsPair (pair : ColumnPair) : Type 0 where
  pub joint : is_joint (form_of pair.form) ≡ true
  pub left : pair.left.now.columns ≡ 1
  pub right : pair.right.now.columns ≡ 1
  pub left_rows : pair.first + pair.rows ≤ pair.left.now.rows
  pub right_rows : pair.first + pair.rows ≤ pair.right.now.rows
  pub one_run : IsInRun pair.first (pair.first + pair.rows)
  pub few : pair.rows ≤ 256

-- those of these operands, which have no mask
pub record IsPairOf (form : EntryForm) (sources : Sources) (first n : ℕ) (pair : ColumnPair) : Type 0 where
  pub is : IsPair pair
  pub form_is : pair.form ≡ form
  pub left_is : pair.left.now ≡ sources.left.now
  pub right_is : mask_of sources.right ≡ Some pair.right.now
  pub mask_is : mask_of sources.mask ≡ None
  pub first_is : pair.first ≡ first
  pub rows_are : pair.rows ≡ n

-- an operator may join them
pub record MayJoin (f : Accepted) (pair : ColumnPair) : Type 0 where
  pub is : IsPair pair
  pub capacity : steps_of (form_all_calls (form_of pair.form) f pair.left.now (Some pair.right.now) None pair.first pair.rows)
      < 2 ^ 64

-- it did: their words are in front, and this is the sum of the steps
pub record AreJoined (f : Accepted) (pair : ColumnPair) (joined : JoinedWords) (steps : ℕ) : Type 0 where
  pub few : joined.many ≤ 256
  pub words_are : take joined.many joined.words
      ≡ along (joined_words (form_of pair.form) f pair.left.now pair.right.now) pair.first pair.rows
  pub sum : steps ≡ steps_of (form_all_calls (form_of pair.form) f pair.left.now (Some pair.right.now) None pair.first pair.rows)

-- the rows of a column from one on, n of them, have a word where those of a form have one
pub record HasShapeOf (form : Form) (f : Accepted) (a b base : Grid) (first n : ℕ) : Type 0 where
  pub is : IsGrid base
  pub one : base.columns ≡ 1
  pub within : first + n ≤ base.rows
  pub many : (i : ℕ) → first ≤ i → i < first + n → length (form_row form f a (Some b) None i) ≡ length (row_of base i)

-- the one of two columns that has, if the first has a word in each row
abbrev pub shape_of : Form → Grid → Grid → Grid
shape_of (Apply thunk) full other = other
shape_of (Select thunk) full other = other
shape_of Union full other = full
shape_of Both full other = other
